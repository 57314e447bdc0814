use Rattle.std.proofs.Common.{◌≡◌, ◌<◌, ◌+◌, [], ◌∷◌, ◌++◌, get_or, length, take, append_assoc, append-nil, refl, rules, sym, ap, ◌∙◌, arith}
use Rattle.std.proofs.Math.ListN.{set}
use Rattle.std.proofs.lemmas.List.{map_more, take_more_set}
use Rattle.lbk_bytes.specs.Order.{no_break}
use Rattle.lbk_bytes.specs.Shown.{given_in, shown}
use Rattle.lbk_bytes.proofs.ShownLemmas.{shown-raw}
use Rattle.lbk_passage.proofs.found.put_breaks.Goals as goal

pub loop-k-init : goal.loop-k-init
loop-k-init c = record { long = refl; front = ap (λ n. take n c.args.block.now) (let e : c.args.count + 0 ≡ c.args.count = omega arith in e) ∙ sym (append-nil (take c.args.count c.args.block.now)) }

pub loop-k-preserved : goal.loop-k-preserved
loop-k-preserved c =
    let l = c.loop-k in
    let raw = get_or c.args.raw.now l.k no_break in
    let found = c.requires.breaks l.k (omega arith) in
    let same : c.break_of.result ≡ shown raw = c.break_of.ensures found.0 found.1 ∙ sym (ap shown found.1 ∙ shown-raw found.0) in
    let there : c.args.count + l.k < length l.block = omega (arith, c.requires.room, l.invariant.long) in
    let next : c.args.count + (l.k + 1) ≡ c.args.count + l.k + 1 = omega arith in
    record {
      long = search rules;
      front =
          ap (λ n. take n (set l.block (c.args.count + l.k) c.break_of.result)) next
          ∙ take_more_set l.block (c.args.count + l.k) c.break_of.result there
          ∙ ap (λ front. front ++ c.break_of.result ∷ []) l.invariant.front
          ∙ append_assoc (take c.args.count c.args.block.now) (given_in c.args.raw.now l.k) (c.break_of.result ∷ [])
          ∙ ap (λ b. take c.args.count c.args.block.now ++ (given_in c.args.raw.now l.k ++ b ∷ [])) same
          ∙ ap (λ all. take c.args.count c.args.block.now ++ all) (sym (map_more shown c.args.raw.now l.k no_break (omega (arith, c.requires.room))));
    }
