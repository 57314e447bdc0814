-- Bits of numbers of 64 bits.
use Rattle.std.proofs.Common.{◌≡◌, ℕ, zero, suc, ◌+◌, ◌-◌, ◌^◌, ◌==◌, ◌<◌, ◌≤◌, true, false, leb, List, length, refl, sym, ap, ◌∙◌, ⊎_elim, arith, w64}
use Rattle.std.specs.Int.{trailing_zeros}
use Rattle.std.specs.Int.Count.{trailing_of_zero}
use Rattle.std.proofs.lemmas.Bool.{cases_lt, le-leb, lt-leb}
use Rattle.std.proofs.lemmas.Nat.{trailing_le}
use Rattle.std.proofs.lemmas.Nat.Bits.{bit_at-trailing_zeros, bit_at_ones}
use Rattle.lbk_masks.proofs.BitLemmas.{set-none}
use Rattle.lbk_masks.specs.Sets.{is_set}
use Rattle.lbk_masks.specs.Bits.{AreKeptBelow, AreKeptFrom}
use Rattle.lbk_bytes.specs.Blocks.{AreEnded}

pub all-below : (bits count : ℕ) → count ≡ 64 → AreKeptBelow count bits bits
all-below bits count whole = record { same = λ i h. refl; none = λ i more few. absurd (omega arith) }

-- no bit is set below the lowest
pub zeros-below : (bits : ℕ) → bits < 2 ^ 64 → (i : ℕ) → i < trailing_zeros w64 bits → is_set bits i ≡ false
zeros-below zero fits i h = set-none i
zeros-below (suc n) fits i h = ap (λ n. n == 1) ((bit_at-trailing_zeros w64 (suc n) (omega arith) fits).2 i h)

-- the lowest is set
pub zeros-end : (bits : ℕ) → bits < 2 ^ 64 → trailing_zeros w64 bits < 64 → is_set bits (trailing_zeros w64 bits) ≡ true
zeros-end zero fits few = absurd (omega (arith, trailing_of_zero 64))
zeros-end (suc n) fits few = ap (λ n. n == 1) (bit_at-trailing_zeros w64 (suc n) (omega arith) fits).1

pub zeros-few : (bits : ℕ) → trailing_zeros w64 bits ≤ 64
zeros-few bits = trailing_le 64 bits

-- the lowest bit of those from one on is none before
pub lowest-from : (bits first kept : ℕ) → kept < 2 ^ 64 → first < 64 → AreKeptFrom first bits kept → first ≤ trailing_zeros w64 kept
lowest-from bits first kept fits few since =
    ⊎_elim
    (λ (less : trailing_zeros w64 kept < first).
    let set = zeros-end kept fits (omega arith) in
    let none = since.none (trailing_zeros w64 kept) less in
    absurd (let e : true ≡ false = sym set ∙ none in (let never : ⊥ = cc in never)))
    (λ (le : first ≤ trailing_zeros w64 kept). le)
    (cases_lt (trailing_zeros w64 kept) first)

-- the lowest bit of those from one on is not behind the end of a text, where all bits are set
pub lowest-inside : (text : List ℕ) (at bits first kept : ℕ) → kept < 2 ^ 64 → first < 64 → at + first < length text → AreEnded text at bits → AreKeptFrom first bits kept
    → at + trailing_zeros w64 kept ≤ length text
lowest-inside text at bits first kept fits few inside ended since =
    ⊎_elim
    (λ (past : length text < at + trailing_zeros w64 kept).
    let i = length text - at in
    let most = zeros-few kept in
    let few_too : i < 64 = omega arith in
    let none = zeros-below kept fits i (omega arith) in
    let set = since.same i (omega arith) few_too ∙ ended i few_too (omega arith) in
    absurd (let e : true ≡ false = sym set ∙ none in (let never : ⊥ = cc in never)))
    (λ (le : at + trailing_zeros w64 kept ≤ length text). le)
    (cases_lt (length text) (at + trailing_zeros w64 kept))

-- the bits from one on of the number that has all
pub all-from : (first kept i : ℕ) → AreKeptFrom first (2 ^ 64 - 1) kept → i < 64 → is_set kept i ≡ leb first i
all-from first kept i since few =
    ⊎_elim
    (λ (before : i < first). since.none i before ∙ sym (lt-leb first i before))
    (λ (after : first ≤ i). since.same i after few ∙ ap (λ n. n == 1) (bit_at_ones 64 i few) ∙ sym (le-leb first i after))
    (cases_lt i first)
