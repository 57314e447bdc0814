-- How many bits of a number are set, one less of them at a time.
use Rattle.std.proofs.Common.{◌≡◌, ◌≢◌, ℕ, zero, suc, ◌+◌, ◌/◌, ◌^◌, ◌==◌, ◌<◌, count_ones, refl, sym, ap, ◌∙◌, arith}
use Rattle.std.specs.Int.{bit_at}
use Rattle.std.proofs.lemmas.Bool.{eqb-true, false≢true}
use Rattle.std.proofs.lemmas.Nat.Bits.{bit_at-lt, bit_at-suc, bit_at_lowest, same_from_bits_below}
use lib.Count.{ones_step}
use Rattle.lbk_masks.specs.Bits.{AreCleared, IsLowest}

-- a bit by whether it is set
bit-told : (a b : ℕ) → a < 2 → b < 2 → (a == 1) ≡ (b == 1) → a ≡ b
bit-told zero zero _ _ same = refl
bit-told zero (suc zero) _ _ same = absurd (false≢true same)
bit-told zero (suc (suc b)) _ few same = absurd (omega (arith, few))
bit-told (suc zero) zero _ _ same = absurd (false≢true (sym same))
bit-told (suc zero) (suc zero) _ _ same = refl
bit-told (suc zero) (suc (suc b)) _ few same = absurd (omega (arith, few))
bit-told (suc (suc a)) b few _ same = absurd (omega (arith, few))

half : (k n : ℕ) → n < 2 ^ suc k → n / 2 < 2 ^ k
half k n fits = omega (arith, fits)

-- a bit less in numbers of `k` bits
one-less : (k n m index : ℕ) → n < 2 ^ k → m < 2 ^ k → index < k → bit_at n index ≡ 1 → bit_at m index ≡ 0
    → ((i : ℕ) → i < k → i ≢ index → bit_at m i ≡ bit_at n i) → count_ones n ≡ count_ones m + 1
one-less zero n m index fits less few set gone same = absurd (omega (arith, few))
one-less (suc k) n m zero fits less few set gone same =
    let rest : m / 2 ≡ n / 2 =
    same_from_bits_below k (m / 2) (n / 2) (half k m less) (half k n fits)
    (λ i inside. sym (bit_at-suc m i) ∙ same (suc i) (omega (arith, inside)) (λ is. omega (arith, is)) ∙ bit_at-suc n i) in
    omega (arith, ones_step n, ones_step m, ap count_ones rest, bit_at_lowest n, bit_at_lowest m, set, gone)
one-less (suc k) n m (suc j) fits less few set gone same =
    let rest = one-less k (n / 2) (m / 2) j (half k n fits) (half k m less) (omega (arith, few)) (sym (bit_at-suc n j) ∙ set) (sym (bit_at-suc m j) ∙ gone)
    (λ i inside other. sym (bit_at-suc m i) ∙ same (suc i) (omega (arith, inside)) (λ is. other (omega (arith, is))) ∙ bit_at-suc n i) in
    omega (arith, ones_step n, ones_step m, rest, bit_at_lowest n, bit_at_lowest m, same 0 (omega arith) (λ is. omega (arith, is)))

-- without its lowest bit a number has one less
pub one-fewer : (bits index kept : ℕ) → bits < 2 ^ 64 → kept < 2 ^ 64 → 0 < bits → index < 64 → IsLowest bits index → AreCleared bits index kept
    → count_ones bits ≡ count_ones kept + 1
one-fewer bits index kept fits less some few lowest cleared =
    one-less 64 bits kept index fits less few (eqb-true (bit_at bits index) 1 (lowest.set some)) (bit-told (bit_at kept index) 0 (bit_at-lt kept index) (omega arith) cleared.gone)
    (λ i inside other. bit-told (bit_at kept i) (bit_at bits i) (bit_at-lt kept i) (bit_at-lt bits i) (cleared.same i inside other))
