use Rattle.std.proofs.Common.{◌+◌, ◌*◌, ◌≡◌, length, ap, subst, sym, ◌∙◌, arith}
use Rattle.bstr.specs.Utf8.{pieces}
use Rattle.lbk_bytes.specs.Marks.{boundary_from, from_on, stands_among}
use Rattle.lbk_calls.specs.Coming.{Comes, IsGoing, IsSpent, UnitsComeBy, onward_in}
use Rattle.lbk_calls.specs.State.{plain, plain_number}
use Rattle.lbk_calls.proofs.GoingLemmas.{advances-none, advances-on}
use Rattle.lbk_calls.proofs.UnitsComingLemmas.{bytes-begin, units-none}
use Rattle.lbk_c.proofs.MarkLemmas.{Comes-behind, Comes-marks, Comes-unspent, never-spent}
use Rattle.lbk_c.proofs.marking.marks_of.Goals as goal

pub returns-in_default : goal.returns-in_default
returns-in_default g c =
    let old = c.args.state.now in
    let size = length c.args.text.now in
    let spent = subst (λ s. IsSpent s size) c.plain.ensures c.in_default.ensures in
    record {
      marks_over = record {
        advances = advances-none old size _;
        told = λ few unended within. absurd (never-spent old size spent few unended within);
        after = λ i _. c.clear.ensures i;
        near = omega arith;
        all = λ few unended within _. absurd (never-spent old size spent few unended within);
        more = λ few unended room. absurd (never-spent old size spent few unended (omega (arith, room)));
      };
      begins = bytes-begin (g.K.KindSource.kinds_of c.args.table.now) (g.K.KindSource.pairs_of c.args.table.now) c.args.text.now old;
      marks_next = λ cell to_come comes.
          let from = onward_in old.profile in
          let none = units-none from pieces cell (g.K.KindSource.kinds_of c.args.table.now) (g.K.KindSource.pairs_of c.args.table.now) c.args.text.now (plain old) to_come spent comes in
          record {
            bits = λ i _. c.clear.ensures i ∙ sym (ap (stands_among (old.at + i)) none);
            rest = subst (Comes cell (g.K.KindSource.kinds_of c.args.table.now) (g.K.KindSource.pairs_of c.args.table.now) c.args.text.now old) (none ∙ sym (ap (from_on (old.at + 64 * length c.args.words.now)) none)) comes;
            boundary = λ unended. absurd (Comes-unspent from cell (g.K.KindSource.kinds_of c.args.table.now) (g.K.KindSource.pairs_of c.args.table.now) c.args.text.now (plain old) to_come spent comes unended);
          };
    }

pub returns : goal.returns
returns g c =
    let on = c.go_on.ensures in
    let old = c.args.state.now in
    let new = c.go_on.new.state in
    let words = c.go_on.new.words in
    let kinds = g.K.KindSource.kinds_of c.args.table.now in
    let pairs = g.K.KindSource.pairs_of c.args.table.now in
    let text = c.args.text.now in
    let profile = c.in-Some.profile in
    let going = subst (λ s. IsGoing profile s (length text)) c.plain.ensures c.in-Some.ensures in
    record {
      marks_over = record {
        advances =
            advances-on profile old new (length text) (length c.args.words.now) c.go_on.result going
            on.profile_same on.forward on.onward.0 on.onward.1 on.at_end (λ empty. (omega (arith, on.told, empty), on.no_room empty));
        told = λ _ _ _. on.told;
        after = on.after;
        near = on.near;
        all = λ _ _ _. on.all;
        more = λ _ _. on.more;
      };
      begins = bytes-begin kinds pairs text old;
      marks_next = λ cell to_come comes.
          let marks = Comes-marks (onward_in old.profile) profile cell kinds pairs text old.at (plain old) (plain new) to_come words on.marks going comes in
          let kept = on.profile_same in
          let next = Comes-behind (onward_in old.profile) profile cell kinds pairs text old.at (plain old) (plain new) to_come words going (ap plain_number kept) comes marks in
          let same : length words ≡ length c.args.words.now = omega arith in
          record {
            bits = λ i h. marks.bits i (omega arith);
            rest =
                subst (λ n. UnitsComeBy (onward_in new.profile) pieces cell kinds pairs text (plain new) (from_on (old.at + 64 * n) to_come)) same
                (subst (λ n. UnitsComeBy (onward_in n) pieces cell kinds pairs text (plain new) (from_on (old.at + 64 * length words) to_come)) (sym kept) next);
            boundary = λ _. marks.boundary ∙ ap (λ n. boundary_from text old.at (old.at + 64 * n)) same;
          };
    }
