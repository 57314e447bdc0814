-- The digits that the table of pairs has.
use Rattle.std.proofs.Common.{◌≡◌, ℕ, zero, suc, ◌+◌, ◌-◌, ◌/◌, ◌%◌, ◌<◌, List, [], ◌∷◌, get_or, length, take, refl, subst, ap₂, arith, inl, inr}
use Rattle.std.proofs.lemmas.Bool.{cases_lt}
use Rattle.std.specs.Prelude.{slice_index_or}
use Rattle.lbk_passage.specs.Placing.{two_digits}
use Rattle.lbk_passage.specs.declared.lines.placing.TheConstants.{PAIRS}

-- how far two numbers are from one another
abbrev pub gap : ℕ → ℕ → ℕ
gap m k = (m - k) + (k - m)

-- how far two bytes are from the digits of a number
abbrev pub miss : List ℕ → ℕ → ℕ
miss pair n = gap (length pair) 2 + (gap (get_or pair 0 0) (48 + n / 10) + gap (get_or pair 1 0) (48 + n % 10))

-- the numbers below n whose digits the table does not have
abbrev pub misses : ℕ → ℕ
misses zero = zero
misses (suc n) = misses n + miss (slice_index_or PAIRS n []) n

has : (n p : ℕ) → misses n ≡ 0 → p < n → miss (slice_index_or PAIRS p []) p ≡ 0
has zero p none below = absurd (omega arith)
has (suc n) p none below = elim (cases_lt p n) [
  | inl further ↦ has n p (omega arith) further
  | inr here ↦ let e : n ≡ p = omega arith in subst (λ k. miss (slice_index_or PAIRS k []) k ≡ 0) e (omega arith)
]

digits-of-pair : (pair : List ℕ) (n : ℕ) → miss pair n ≡ 0 → take 2 pair ≡ two_digits n
digits-of-pair [] n none = absurd (omega arith)
digits-of-pair (a ∷ []) n none = absurd (omega arith)
digits-of-pair (a ∷ b ∷ []) n none =
    let first : a ≡ 48 + n / 10 = omega arith in
    let second : b ≡ 48 + n % 10 = omega arith in
    ap₂ (λ x y. x ∷ y ∷ []) first second
digits-of-pair (a ∷ b ∷ c ∷ more) n none = absurd (omega arith)

pub pairs-at : (p : ℕ) → p < 100 → take 2 (slice_index_or PAIRS p []) ≡ two_digits p
pairs-at p below = digits-of-pair (slice_index_or PAIRS p []) p (has 100 p refl below)
