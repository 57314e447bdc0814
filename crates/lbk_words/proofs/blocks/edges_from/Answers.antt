use Rattle.std.proofs.Common.{◌≡◌, ℕ, ◌*◌, ◌%◌, ◌^◌, ◌<◌, ◌≤◌, ◌&&◌, false, bit_and, nat_le, nat_lt, sym, ap, ◌∙◌, ⊎_elim, arith, w64}
use Rattle.std.specs.Int.{bit_not}
use Rattle.std.proofs.lemmas.Bool.{and_left, cases_lt, le-ltb, lt-ltb}
use Rattle.lbk_masks.proofs.BitLemmas.{set-or}
use Rattle.lbk_masks.specs.Sets.{is_set}
use Rattle.lbk_words.specs.Blocks.{differ, runs_at, runs_before}
use Rattle.lbk_words.proofs.Booleans.{or_parts}
use Rattle.lbk_words.proofs.EdgeLemmas.{edge-at, others-at}
use Rattle.lbk_words.proofs.blocks.edges_from.Goals as goal

pub returns-clause-edges : goal.returns-clause-edges
returns-clause-edges c = λ bytes are.
    let first = c.args.first in
    let marks = c.args.marks in
    let kept = c.kept_from-runs.result in
    let up = kept * 2 ^ 1 % 2 ^ 64 in
    let others = bit_and (bit_and kept (bit_not w64 up)) (bit_not w64 marks.begins) in
    let stop = c.first_set-stop.result in
    let none : (i : ℕ) → i < stop → (is_set c.kept_from.result i ≡ false) × (is_set others i ≡ false) =
    λ i less. or_parts _ _ (sym (set-or c.kept_from.result others i) ∙ c.first_set-stop.ensures.lowest.none i less) in
    record {
      few = c.first_set-stop.ensures.within;
      fit = are.fit;
      edges = λ i few. ⊎_elim
          (λ (less : i < stop).
          c.kept_below.ensures.same i less ∙ edge-at bytes first marks.runs kept i are.runs c.kept_from-runs.ensures (omega (arith, c.first_set-stop.ensures.within))
          ∙ sym (ap (λ b. b && (nat_le first i && differ (runs_at bytes i) (runs_before bytes first i))) (lt-ltb i stop less)))
          (λ (past : stop ≤ i).
          c.kept_below.ensures.none i past few ∙ sym (and_left (nat_lt i stop) (nat_le first i && differ (runs_at bytes i) (runs_before bytes first i)) (le-ltb i stop past)))
          (cases_lt i stop);
      plain = λ i after less.
          are.plain i (omega (arith, c.first_set-stop.ensures.within)) (sym (c.kept_from.ensures.same i after (omega (arith, c.first_set-stop.ensures.within))) ∙ (none i less).0);
      begins = λ i after less run apart.
          sym (are.begins i (omega (arith, c.first_set-stop.ensures.within)))
          ∙ others-at bytes first marks.runs kept marks.begins i are.runs c.kept_from-runs.ensures (omega arith) after (omega (arith, c.first_set-stop.ensures.within)) (none i less).1 run apart;
    }
