use Rattle.std.proofs.Common.{◌≡◌, length, refl, subst, sym, ◌∙◌, inr, inl, arith}
use Rattle.std.proofs.lemmas.Bool.{false≢true}
use Rattle.lbk_units.specs.Units.{pieces_of_utf16}
use Rattle.lbk_streams.specs.Cuts.{BeginsIn}
use Rattle.lbk_streams.proofs.PairLemmas.{begins-last, joins-pair}
use Rattle.lbk_streams.proofs.SafeLemmas.{cuts-after, unsafe-here}
use Rattle.lbk_streams.proofs.utf16_cuts.cut_utf16.Goals as goal

pub returns-then-text-at : goal.returns-then-text-at
returns-then-text-at g c =
    let text = c.args.text.now in
    cuts-after pieces_of_utf16 (g.K.KindSource.kinds_of c.args.table.now) (g.K.KindSource.pairs_of c.args.table.now) text c.args.at (length text) (λ profile cell. joins-pair profile cell text (length text) (λ k. (c.type_inv.text k).fits)) (begins-last text)
    (λ cell are_kinds. inr (inl refl)) (omega arith) (omega arith) (λ first. omega arith) (λ cell place are_kinds from less. absurd (omega arith))

pub loop-place-preserved : goal.loop-place-preserved
loop-place-preserved g c =
    let l = c.loop-place in
    record {
      within = omega arith;
      behind = omega (arith, l.invariant.behind);
      start = λ first. absurd (false≢true (sym c.if-may_begin.false ∙ c.may_begin.ensures.start (l.invariant.start first)));
      none = λ cell place are_kinds from before.
          unsafe-here pieces_of_utf16 cell c.args.text.now l.place place c.may_begin.result c.if-may_begin.false (c.may_begin.ensures.safe cell are_kinds).1
          (λ earlier. l.invariant.none cell place are_kinds from earlier) (λ behind. absurd (omega arith));
    }

pub returns-then-may_begin : goal.returns-then-may_begin
returns-then-may_begin g c =
    let text = c.args.text.now in
    let l = c.loop-place in
    cuts-after pieces_of_utf16 (g.K.KindSource.kinds_of c.args.table.now) (g.K.KindSource.pairs_of c.args.table.now) text c.args.at l.place (λ profile cell. joins-pair profile cell text l.place (λ k. (c.type_inv.text k).fits))
    (c.may_begin.ensures.begins c.if-may_begin.true) (λ cell are_kinds. (c.may_begin.ensures.safe cell are_kinds).0 c.if-may_begin.true)
    l.invariant.within (omega (arith, l.invariant.behind)) l.invariant.start l.invariant.none

pub returns : goal.returns
returns g c =
    let text = c.args.text.now in
    let l = c.loop-place in
    let ends : length text ≡ l.place = omega (arith, l.invariant.within) in
    cuts-after pieces_of_utf16 (g.K.KindSource.kinds_of c.args.table.now) (g.K.KindSource.pairs_of c.args.table.now) text c.args.at l.place (λ profile cell. joins-pair profile cell text l.place (λ k. (c.type_inv.text k).fits))
    (subst (BeginsIn pieces_of_utf16 text) ends (begins-last text)) (λ cell are_kinds. inr (inl (sym ends)))
    l.invariant.within (omega (arith, l.invariant.behind)) l.invariant.start l.invariant.none
