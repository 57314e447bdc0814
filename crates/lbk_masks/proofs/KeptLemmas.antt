-- Bits that are kept and cleared, and the lowest that is set.
use Rattle.std.proofs.Common.{◌≡◌, ◌≢◌, ◌⊎◌, ℕ, zero, suc, ◌-◌, ◌*◌, ◌/◌, ◌%◌, ◌^◌, ◌==◌, ◌<◌, ◌≤◌, min, true, false, sym, ap, ◌∙◌, ⊎_elim, inl, inr, arith, w64}
use Rattle.std.specs.Int.{bit_at, bit_not, trailing_zeros}
use Rattle.std.proofs.lemmas.Bool.{cases_lt, eqb-true}
use Rattle.std.proofs.lemmas.Bool.Decides.{eqb_tells}
use Rattle.std.proofs.lemmas.Nat.{and_mask, and_le_l, and_le_r, pow_below}
use Rattle.std.proofs.lemmas.Nat.Bits.{bit_at-lt, bit_at-trailing_zeros, bit_at-suc, bit_at-zero, bit_at_and, bit_at_lowest, bit_at_not, bit_at_ones, bit_at_ones_above}
use lib.Bits.{bit_and}
use Rattle.lbk_masks.specs.Bits.{AreCleared, AreKeptBelow, AreKeptFrom, IsLowest}
use Rattle.lbk_masks.specs.Sets.{is_set}
use Rattle.lbk_masks.proofs.BitLemmas.{set-none}

min-one : (n : ℕ) → n < 2 → min n 1 ≡ n
min-one n few = omega arith

pub kept-below : (bits count : ℕ) → count < 64 → AreKeptBelow count bits (bit_and bits (1 * 2 ^ count % 2 ^ 64 - 1))
kept-below bits count few =
    let small = pow_below count 64 few in
    let mask : 1 * 2 ^ count % 2 ^ 64 - 1 ≡ 2 ^ count - 1 = omega arith in
    record {
      same = λ i h.
          ap (λ n. is_set (bit_and bits n) i) mask
          ∙ ap (λ n. n == 1) (bit_at_and bits (2 ^ count - 1) i ∙ ap (min (bit_at bits i)) (bit_at_ones count i h) ∙ min-one (bit_at bits i) (bit_at-lt bits i));
      none = λ i more h.
          ap (λ n. is_set (bit_and bits n) i) mask
          ∙ ap (λ n. n == 1) (bit_at_and bits (2 ^ count - 1) i ∙ ap (min (bit_at bits i)) (bit_at_ones_above count i more) ∙ (let e : min (bit_at bits i) 0 ≡ 0 = omega arith in e));
    }

pub kept-from : (bits first : ℕ) → first < 64 → AreKeptFrom first bits (bit_and bits (bit_not w64 (1 * 2 ^ first % 2 ^ 64 - 1)))
kept-from bits first few =
    let small = pow_below first 64 few in
    let ones : 1 * 2 ^ first % 2 ^ 64 - 1 ≡ 2 ^ first - 1 = omega arith in
    let fits : 2 ^ first - 1 < 2 ^ 64 = omega arith in
    let bit : (i : ℕ) → i < 64 → bit_at (bit_and bits (bit_not w64 (1 * 2 ^ first % 2 ^ 64 - 1))) i ≡ min (bit_at bits i) (1 - bit_at (2 ^ first - 1) i) =
    λ i h. bit_at_and bits (bit_not w64 (1 * 2 ^ first % 2 ^ 64 - 1)) i
    ∙ ap (min (bit_at bits i)) (ap (λ n. bit_at (bit_not w64 n) i) ones ∙ bit_at_not w64 (2 ^ first - 1) i fits h) in
    record {
      same = λ i after h.
          ap (λ n. n == 1) (bit i h ∙ ap (λ n. min (bit_at bits i) (1 - n)) (bit_at_ones_above first i after) ∙ min-one (bit_at bits i) (bit_at-lt bits i));
      none = λ i h.
          ap (λ n. n == 1) (bit i (omega arith) ∙ ap (λ n. min (bit_at bits i) (1 - n)) (bit_at_ones first i h) ∙ (let e : min (bit_at bits i) 0 ≡ 0 = omega arith in e));
    }

low-six : (n : ℕ) → n < 64 → bit_and n 63 ≡ n
low-six n few = and_mask n 6 ∙ (let e : n % 64 ≡ n = omega arith in e)

pub low-below : (n : ℕ) → bit_and n 63 < 64
low-below n = omega (arith, and_le_r n 63)

pub lowest : (bits : ℕ) → bits < 2 ^ 64 → IsLowest bits (bit_and (trailing_zeros w64 bits) 63)
lowest zero fits = record { set = λ some. absurd (omega arith); none = λ i h. set-none i }
lowest (suc n) fits =
    let found = bit_at-trailing_zeros w64 (suc n) (omega arith) fits in
    let same = low-six (trailing_zeros w64 (suc n)) found.0 in
    record {
      set = λ _. ap (is_set (suc n)) same ∙ ap (λ n. n == 1) found.1;
      none = λ i h. (let below : i < trailing_zeros w64 (suc n) = omega arith in ap (λ n. n == 1) (found.2 i below));
    }

-- the number before has the same bits above the lowest, and not this one
pred-bits : (k n : ℕ) → bit_at n k ≡ 1 → ((i : ℕ) → i < k → bit_at n i ≡ 0)
    → (bit_at (n - 1) k ≡ 0) × ((i : ℕ) → k < i → bit_at (n - 1) i ≡ bit_at n i)
pred-bits zero n set none =
    let odd : n % 2 ≡ 1 = sym (bit_at_lowest n) ∙ set in
    let half : (n - 1) / 2 ≡ n / 2 = omega arith in (
      bit_at_lowest (n - 1) ∙ (let e : (n - 1) % 2 ≡ 0 = omega arith in e),
      λ i more. above i more half,
    )
  where
    above : (i : ℕ) → 0 < i → (n - 1) / 2 ≡ n / 2 → bit_at (n - 1) i ≡ bit_at n i
    above zero more half = absurd (omega arith)
    above (suc i) more half = bit_at-suc (n - 1) i ∙ ap (λ m. bit_at m i) half ∙ sym (bit_at-suc n i)
pred-bits (suc k) n set none =
    let even : n % 2 ≡ 0 = sym (bit_at_lowest n) ∙ none 0 (omega arith) in
    let high : bit_at (n / 2) k ≡ 1 = sym (bit_at-suc n k) ∙ set in
    let some : 0 < n / 2 = positive (n / 2) k high in
    let half : (n - 1) / 2 ≡ n / 2 - 1 = omega arith in
    let rest = pred-bits k (n / 2) high (λ i h. sym (bit_at-suc n i) ∙ none (suc i) (omega (arith, h))) in (
      bit_at-suc (n - 1) k ∙ ap (λ m. bit_at m k) half ∙ rest.0,
      λ i more. above i more half rest.1,
    )
  where
    positive : (m i : ℕ) → bit_at m i ≡ 1 → 0 < m
    positive zero i one = absurd (let e : 0 ≡ 1 = sym (bit_at-zero i) ∙ one in omega arith)
    positive (suc m) i one = omega arith

    above : (i : ℕ) → suc k < i → (n - 1) / 2 ≡ n / 2 - 1 → ((j : ℕ) → k < j → bit_at (n / 2 - 1) j ≡ bit_at (n / 2) j) → bit_at (n - 1) i ≡ bit_at n i
    above zero more half rest = absurd (omega arith)
    above (suc i) more half rest = bit_at-suc (n - 1) i ∙ ap (λ m. bit_at m i) half ∙ rest i (omega (arith, more)) ∙ sym (bit_at-suc n i)

pub are-cleared : (bits index : ℕ) → 0 < bits → index < 64 → IsLowest bits index → AreCleared bits index (bit_and bits (bits - 1))
are-cleared bits index some few first =
    let set : bit_at bits index ≡ 1 = eqb-true (bit_at bits index) 1 (first.set some) in
    let pred = pred-bits index bits set (λ i h. unset (bit_at bits i) (bit_at-lt bits i) (first.none i h)) in
    record {
      same = λ i h other.
          ⊎_elim
          (λ (below : i < index).
          let zero_there = unset (bit_at bits i) (bit_at-lt bits i) (first.none i below) in
          ap (λ n. n == 1) (bit_at_and bits (bits - 1) i ∙ (let e : min (bit_at bits i) (bit_at (bits - 1) i) ≡ bit_at bits i = omega arith in e)))
          (λ (above : index < i).
          ap (λ n. n == 1) (bit_at_and bits (bits - 1) i ∙ ap (min (bit_at bits i)) (pred.1 i above) ∙ (let e : min (bit_at bits i) (bit_at bits i) ≡ bit_at bits i = omega arith in e)))
          (apart i index other);
      gone = ap (λ n. n == 1) (bit_at_and bits (bits - 1) index ∙ ap (min (bit_at bits index)) pred.0 ∙ (let e : min (bit_at bits index) 0 ≡ 0 = omega arith in e));
      fewer = and_le_l bits (bits - 1);
    }
  where
    unset : (bit : ℕ) → bit < 2 → (bit == 1) ≡ false → bit ≡ 0
    unset bit small is = ⊎_elim (λ yes. absurd (let e : true ≡ false = sym yes.0 ∙ is in (let never : ⊥ = cc in never))) (λ other. (let apart = other.1 in omega arith)) (eqb_tells bit 1)

    apart : (i j : ℕ) → i ≢ j → (i < j) ⊎ (j < i)
    apart i j other = ⊎_elim (λ (lt : i < j). inl lt) (λ (le : j ≤ i). inr (omega arith)) (cases_lt i j)
