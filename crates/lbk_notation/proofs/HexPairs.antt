-- The hex digits that the table of pairs has.
use Rattle.std.proofs.Common.{◌≡◌, ℕ, zero, suc, ◌+◌, ◌/◌, ◌%◌, ◌<◌, [], ◌∷◌, get_or, refl, subst, ap₂, arith, inl, inr}
use Rattle.std.proofs.lemmas.Bool.{cases_lt}
use Rattle.std.specs.Int.{to_le_bytes, w16}
use Rattle.std.specs.Prelude.{slice_index_or}
use Rattle.lbk_passage.proofs.Pairs.{gap}
use Rattle.lbk_notation.specs.Grammar.{digit_byte}
use Rattle.lbk_notation.specs.declared.writing.TheConstants.{PAIRS}

-- a byte of the pair of a number
abbrev byte : ℕ → ℕ → ℕ
byte p k = get_or (to_le_bytes w16 (slice_index_or PAIRS p 0)) k 0

-- how far the pair of a number is from its digits
abbrev pub miss : ℕ → ℕ
miss p = gap (byte p 0) (digit_byte (p / 16)) + gap (byte p 1) (digit_byte (p % 16))

-- how far those of the numbers below n are
abbrev pub misses : ℕ → ℕ
misses zero = zero
misses (suc n) = misses n + miss n

has : (n p : ℕ) → misses n ≡ 0 → p < n → miss p ≡ 0
has zero p none below = absurd (omega arith)
has (suc n) p none below = elim (cases_lt p n) [
  | inl further ↦ has n p (omega arith) further
  | inr here ↦ let e : n ≡ p = omega arith in subst (λ k. miss k ≡ 0) e (omega arith)
]

pub pairs-at : (p : ℕ) → p < 256 → to_le_bytes w16 (slice_index_or PAIRS p 0) ≡ digit_byte (p / 16) ∷ digit_byte (p % 16) ∷ []
pairs-at p below =
    let none : miss p ≡ 0 = has 256 p refl below in
    let first : byte p 0 ≡ digit_byte (p / 16) = omega (arith, none) in
    let second : byte p 1 ≡ digit_byte (p % 16) = omega (arith, none) in
    ap₂ (λ x y. x ∷ y ∷ []) first second
