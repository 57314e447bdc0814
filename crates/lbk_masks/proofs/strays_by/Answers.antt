use Rattle.std.proofs.Common.{◌≡◌, ℕ, zero, suc, ◌+◌, ◌*◌, ◌/◌, ◌%◌, ◌^◌, ◌<◌, ◌≤◌, ◌&&◌, ◌||◌, Bool, List, not, leb, ltb, get_or, bit_and, sym, ap, ap₂, ◌∙◌, ⊎_elim, arith, w64}
use Rattle.std.specs.Int.{bit_not}
use Rattle.std.specs.Int.Bits.{bit_or}
use Rattle.std.proofs.lemmas.Bool.{cases_lt, le-leb, le-ltb, lt-leb, lt-ltb}
use Rattle.std.proofs.lemmas.Nat.{and_le_l, or_lt}
use Rattle.lbk_masks.specs.Sets.{is_set}
use Rattle.lbk_masks.specs.Strays.{continues, is_pair, is_second}
use Rattle.lbk_masks.proofs.BitLemmas.{set-and, set-down, set-not, set-or, set-past, set-up, set-up-first}
use Rattle.lbk_masks.proofs.strays_by.Goals as goal

not-le : (a b : ℕ) → not (leb a b) ≡ ltb b a
not-le a b =
    ⊎_elim (λ (less : b < a). ap not (lt-leb a b less) ∙ sym (lt-ltb b a less)) (λ (least : a ≤ b). ap not (le-leb a b least) ∙ sym (le-ltb b a least)) (cases_lt b a)

-- the next bit, if the number has one there
next-set : (n i : ℕ) (is : ℕ → Bool) → n < 2 ^ 64 → i < 64 → ((j : ℕ) → j < 64 → is_set n j ≡ is j) → is_set n (suc i) ≡ (ltb i 63 && is (i + 1))
next-set n i is fits few each =
    ⊎_elim
    (λ (less : i < 63).
    let up : suc i ≡ i + 1 = omega arith in
    each (suc i) (omega arith) ∙ ap is up ∙ sym (ap (λ b. b && is (i + 1)) (lt-ltb i 63 less)))
    (λ (least : 63 ≤ i).
    let last : suc i ≡ 64 = omega arith in
    ap (is_set n) last ∙ set-past n fits ∙ sym (ap (λ b. b && is (i + 1)) (le-ltb i 63 least)))
    (cases_lt i 63)

second_at : (pairs : ℕ) (text : List ℕ) (i : ℕ) → i < 64 → ((j : ℕ) → j < 64 → is_set pairs j ≡ is_pair text j)
    → is_set (pairs * 2 ^ 1 % 2 ^ 64) i ≡ is_second text i
second_at pairs text zero h each = set-up-first pairs
second_at pairs text (suc i) h each = set-up pairs i h ∙ each i (omega (arith, h))

pub returns : goal.returns
returns c text are_edges i h =
    let byte = λ (j : ℕ). get_or text j 0 in
    let wide = c.args.edges.wide in
    let first = c.args.edges.first in
    let more = bit_and wide (bit_not w64 first) in
    let pairs = bit_and first (more / 2 ^ 1) in
    let seconds = pairs * 2 ^ 1 % 2 ^ 64 in
    let wide_at : (j : ℕ) → j < 64 → is_set wide j ≡ leb 128 (byte j) =
    λ j few. are_edges.wide j few ∙ ap (λ b. b && leb 128 (byte j)) (lt-ltb j 64 few) in
    let first_at : (j : ℕ) → j < 64 → is_set first j ≡ leb 192 (byte j) =
    λ j few. are_edges.first j few ∙ ap (λ b. b && leb 192 (byte j)) (lt-ltb j 64 few) in
    let wide_fits : wide < 2 ^ 64 = omega arith in
    let first_fits : first < 2 ^ 64 = omega arith in
    let more_at : (j : ℕ) → j < 64 → is_set more j ≡ continues (byte j) =
    λ j few. set-and wide (bit_not w64 first) j
    ∙ ap₂ (λ x y. x && y) (wide_at j few) (set-not first j first_fits few ∙ ap not (first_at j few) ∙ not-le 192 (byte j)) in
    let more_fits : more < 2 ^ 64 = omega (arith, and_le_l wide (bit_not w64 first)) in
    let pairs_fits : pairs < 2 ^ 64 = omega (arith, and_le_l first (more / 2 ^ 1)) in
    let seconds_fit : seconds < 2 ^ 64 = omega arith in
    let pair_at : (j : ℕ) → j < 64 → is_set pairs j ≡ is_pair text j =
    λ j few. set-and first (more / 2 ^ 1) j
    ∙ ap₂ (λ x y. x && y) (first_at j few) (set-down more j ∙ next-set more j (λ k. continues (byte k)) more_fits few more_at) in
    set-and wide (bit_not w64 (bit_or pairs seconds)) i
    ∙ ap₂ (λ x y. x && y) (wide_at i h)
    (set-not (bit_or pairs seconds) i (or_lt 64 pairs seconds pairs_fits seconds_fit) h
    ∙ ap not (set-or pairs seconds i ∙ ap₂ (λ x y. x || y) (pair_at i h) (second_at pairs text i h pair_at)))
