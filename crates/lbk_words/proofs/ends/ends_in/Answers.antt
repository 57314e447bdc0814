use Rattle.std.proofs.Common.{◌≡◌, ℕ, ◌-◌, ◌*◌, ◌%◌, ◌^◌, ◌<◌, ◌≤◌, false, not, ◌&&◌, ◌||◌, bit_and, bit_or, nat_lt, refl, sym, ap, ap₂, ◌∙◌, ⊎_elim, arith, w64}
use Rattle.std.specs.Int.{bit_not}
use Rattle.std.specs.Int.Bits.{and_lt}
use Rattle.std.proofs.lemmas.Nat.{or_lt}
use Rattle.std.proofs.lemmas.Bool.{and_left, and_right, cases_lt, le-ltb, lt-ltb}
use Rattle.lbk_masks.proofs.BitLemmas.{set-and, set-none, set-not, set-or}
use Rattle.lbk_masks.specs.Bits.{AreKeptFrom}
use Rattle.lbk_masks.specs.Sets.{is_set}
use Rattle.lbk_words.specs.Blocks.{runs_at}
use Rattle.lbk_words.specs.Ends.{goes_on_at}
use Rattle.lbk_words.proofs.Booleans.{or_parts}
use Rattle.lbk_words.proofs.EdgeLemmas.{others-at, set-before}
use Rattle.lbk_words.proofs.ends.ends_in.Goals as goal

pub returns-then-is_one_run : goal.returns-then-is_one_run
returns-then-is_one_run g c = (
  0,
  record {
    few = omega arith;
    fit = λ i. (c.type_inv.bytes i).fits;
    told = λ i few. set-none i ∙ sym (and_left (nat_lt i 0) (nat_lt 0 i && not (goes_on_at c.args.bytes.now i)) (le-ltb i 0 (omega arith)));
    plain = λ i after less. absurd (omega arith);
    begins = λ i after less. absurd (omega arith);
  },
)

pub returns : goal.returns
returns g c =
    let bytes = c.args.bytes.now in
    let marks = c.marks_of-marks.result in
    let are = c.marks_of-marks.ensures in
    let since : AreKeptFrom 0 marks.runs marks.runs = record { same = λ i after few. refl; none = λ i less. absurd (omega arith) } in
    let up = marks.runs * 2 ^ 1 % 2 ^ 64 in
    let others = bit_and (bit_and marks.runs (bit_not w64 up)) (bit_not w64 marks.begins) in
    let stop = c.first_set-stop.result in
    let inside = bit_or (bit_and up marks.runs) c.pairs_in.result in
    let below : stop < 64 = c.first_set-stop.ensures.within in
    let fits : inside < 2 ^ 64 = or_lt 64 (bit_and up marks.runs) c.pairs_in.result (and_lt 64 up marks.runs (omega arith) (omega arith)) (omega arith) in
    let none : (i : ℕ) → i < stop → (is_set marks.stops i ≡ false) × (is_set others i ≡ false) =
    λ i less. or_parts _ _ (sym (set-or marks.stops others i) ∙ c.first_set-stop.ensures.lowest.none i less) in
    let going : (i : ℕ) → 0 < i → i < 63 → is_set inside i ≡ goes_on_at bytes i =
    λ i after few. set-or (bit_and up marks.runs) c.pairs_in.result i
    ∙ ap₂ (λ a b. a || b)
    (set-and up marks.runs i
    ∙ ap₂ (λ a b. a && b) (set-before marks.runs i (omega arith) ∙ ap₂ (λ a b. a && b) (lt-ltb 0 i after) (are.runs (i - 1) (omega arith))) (are.runs i few))
    (c.pairs_in.ensures i after (omega arith)) in (
      stop,
      record {
        few = below;
        fit = are.fit;
        told = λ i few. ⊎_elim
            (λ (after : 0 < i).
            c.kept_from.ensures.same i (omega arith) few
            ∙ ⊎_elim
            (λ (less : i < stop).
            c.kept_below.ensures.same i less ∙ set-not inside i fits few ∙ ap not (going i after (omega (arith, below)))
            ∙ sym (ap₂ (λ a b. a && (b && not (goes_on_at bytes i))) (lt-ltb i stop less) (lt-ltb 0 i after)))
            (λ (past : stop ≤ i). c.kept_below.ensures.none i past few ∙ sym (and_left (nat_lt i stop) (nat_lt 0 i && not (goes_on_at bytes i)) (le-ltb i stop past)))
            (cases_lt i stop))
            (λ (most : i ≤ 0).
            c.kept_from.ensures.none i (omega arith)
            ∙ sym (and_right (nat_lt i stop) (nat_lt 0 i && not (goes_on_at bytes i)) (and_left (nat_lt 0 i) (not (goes_on_at bytes i)) (le-ltb 0 i most))))
            (cases_lt 0 i);
        plain = λ i after less. are.plain i (omega (arith, below)) (none i less).0;
        begins = λ i after less is why.
            sym (are.begins i (omega (arith, below)))
            ∙ others-at bytes 0 marks.runs marks.runs marks.begins i are.runs since (omega arith) after (omega (arith, below)) (none i less).1 is
            (⊎_elim (λ (same : i ≡ 0). and_left (nat_lt 0 i) (runs_at bytes (i - 1)) (le-ltb 0 i (omega arith)))
            (λ (apart : runs_at bytes (i - 1) ≡ false). and_right (nat_lt 0 i) (runs_at bytes (i - 1)) apart) why);
      },
    )
