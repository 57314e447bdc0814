-- Flags of bytes, one more of them set at a time.
use Rattle.std.proofs.Common.{◌≡◌, ℕ, ◌+◌, ◌<◌, ◌≤◌, Bool, true, false, not, List, length, set, encode_utf8, slice_index_or, inl, inr, refl, sym, ap, ◌∙◌, arith, [], append-nil, get_or-set_same, get_or-set_other}
use Rattle.std.specs.Char.{IsScalar}
use Rattle.std.proofs.lemmas.Bool.{cases_eq, cases_lt, not-false}
use Rattle.std.proofs.lemmas.List.{get_or_past}
use Rattle.std.proofs.lemmas.Str.{IsCharBoundary-start, char_from_byte, length-encode, len_utf8_bounds}
use Rattle.lbk_rules.specs.declared.Cell.{Cell}
use Rattle.lbk_rules.specs.Ends.{ends_line}
use Rattle.lbk_rules.specs.FirstBytes as FirstBytes
use Rattle.lbk_rules.specs.FirstBytes.{AreQuiet, first_byte}
use Rattle.lbk_rules.proofs.FirstByteLemmas.{first-high}
use Rattle.lbk_passage.specs.Flags.{length_told}
use Rattle.lbk_passage.proofs.Finding.{IsUtf8-scalar}

pub some_bytes : (c : ℕ) → 0 < length (encode_utf8 c)
some_bytes c = let bounds = len_utf8_bounds c in omega (arith, length-encode c, bounds.0)

off : (b : Bool) → not b ≡ true → b ≡ false
off true is = sym is
off false is = refl

-- the flag of a scalar of one byte, by its own class
pub AreQuiet-ascii : (cell : ℕ → Cell) (quiet : List Bool) (byte : ℕ) → byte < 128 → byte < length quiet → AreQuiet cell quiet
    → AreQuiet cell (set quiet byte (not (ends_line (cell byte).class)))
AreQuiet-ascii cell quiet byte ascii within are code scalar on =
    let flag = not (ends_line (cell byte).class) in
    elim (cases_eq (first_byte code) byte) [
      | inl same ↦
          let it : code ≡ first_byte code =
          char_from_byte (encode_utf8 code) [] code (sym (append-nil (encode_utf8 code))) (omega (arith, same)) (some_bytes code) in
          let set_on : flag ≡ true =
          sym (get_or-set_same quiet byte flag false within) ∙ ap (λ k. slice_index_or (set quiet byte flag) k false) (sym same) ∙ on in
          ap (λ k. ends_line (cell k).class) (it ∙ same) ∙ off (ends_line (cell byte).class) set_on
      | inr other ↦ are code scalar (sym (get_or-set_other quiet byte (first_byte code) flag false other) ∙ on)
    ]

-- the flag of a byte that continues a scalar, and so begins none
pub AreQuiet-later : (cell : ℕ → Cell) (quiet : List Bool) (byte : ℕ) → 128 ≤ byte → byte < 192 → AreQuiet cell quiet
    → AreQuiet cell (set quiet byte true)
AreQuiet-later cell quiet byte high low are code scalar on =
    let begins = (IsCharBoundary-start (encode_utf8 code) (IsUtf8-scalar code scalar)).1 (some_bytes code) in
    are code scalar (sym (get_or-set_other quiet byte (first_byte code) true false
    (λ same. let first = begins (omega (arith, same, high)) in let impossible : ⊥ = omega (arith, first, same, low) in impossible)) ∙ on)

-- the flags of bytes that continue a scalar, one more of them set
pub later-more : (quiet : List Bool) (byte : ℕ) → byte < length quiet
    → ((k : ℕ) → 128 ≤ k → k < byte → slice_index_or quiet k false ≡ true)
    → (k : ℕ) → 128 ≤ k → k < byte + 1 → slice_index_or (set quiet byte true) k false ≡ true
later-more quiet byte within before k from to = elim (cases_eq k byte) [
  | inl same ↦ ap (λ j. slice_index_or (set quiet byte true) j false) same ∙ get_or-set_same quiet byte true false within
  | inr other ↦ get_or-set_other quiet byte k true false other ∙ before k from (omega (arith, other, to))
]

-- a byte set in a list of lengths, one more of those that are told in turn
pub told-more : (telling : ℕ → Bool) (lengths : List ℕ) (byte : ℕ) → byte < length lengths
    → ((k : ℕ) → k < byte → slice_index_or lengths k 0 ≡ length_told (telling k))
    → (k : ℕ) → k < byte + 1 → slice_index_or (set lengths byte (length_told (telling byte))) k 0 ≡ length_told (telling k)
told-more telling lengths byte within before k below = elim (cases_eq k byte) [
  | inl same ↦ ap (λ j. slice_index_or (set lengths byte told) j 0) same ∙ get_or-set_same lengths byte told 0 within
      ∙ ap (λ j. length_told (telling j)) (sym same)
  | inr other ↦ get_or-set_other lengths byte k told 0 other ∙ before k (omega (arith, other, below))
]
  where
    told : ℕ
    told = length_told (telling byte)

-- a byte that tells of pieces of more than one byte begins letters alone, if it was told by its flag
pub letters-longer : (cell : ℕ → Cell) (letters : List Bool) (lengths : List ℕ) → FirstBytes.AreLetters cell letters → length lengths ≡ 256
    → ((byte : ℕ) → 128 ≤ byte → byte < 256 → slice_index_or lengths byte 0 ≡ length_told (slice_index_or letters byte false))
    → (code : ℕ) → IsScalar code → 128 ≤ code → 1 < slice_index_or lengths (first_byte code) 0 → (cell code).letter ≡ true
letters-longer cell letters lengths are whole told code scalar high more = elim (cases_lt (first_byte code) 256) [
  | inl few ↦ on (slice_index_or letters (first_byte code) false) refl (told (first_byte code) (first-high code high) few)
  | inr past ↦
      let none = get_or_past lengths (first_byte code) 0 (omega (arith, whole, past)) in
      let impossible : ⊥ = omega (arith, none, more) in
      absurd impossible
]
  where
    on : (b : Bool) → slice_index_or letters (first_byte code) false ≡ b → slice_index_or lengths (first_byte code) 0 ≡ length_told (slice_index_or letters (first_byte code) false)
        → (cell code).letter ≡ true
    on true is _ = not-false (cell code).letter (are code scalar is)
    on false is by =
        let one : slice_index_or lengths (first_byte code) 0 ≡ 1 = by ∙ ap length_told is in
        let impossible : ⊥ = omega (arith, one, more) in
        absurd impossible

-- and it stays so where the length of a scalar of one byte is set
pub longer-set : (cell : ℕ → Cell) (lengths : List ℕ) (byte told : ℕ) → byte < 128
    → ((code : ℕ) → IsScalar code → 128 ≤ code → 1 < slice_index_or lengths (first_byte code) 0 → (cell code).letter ≡ true)
    → (code : ℕ) → IsScalar code → 128 ≤ code → 1 < slice_index_or (set lengths byte told) (first_byte code) 0 → (cell code).letter ≡ true
longer-set cell lengths byte told low before code scalar high more =
    let first = first-high code high in
    let kept = get_or-set_other lengths byte (first_byte code) told 0 (λ same. let impossible : ⊥ = omega (arith, same, low, first) in impossible) in
    before code scalar high (omega (arith, kept, more))
