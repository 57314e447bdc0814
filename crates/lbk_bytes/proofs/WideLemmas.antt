-- What units of 16 and 32 bits spell.
use Rattle.std.proofs.Common.{◌≡◌, ℕ, ◌<◌, ◌≤◌, ⊎_elim, Bool, true, false, cond, IfSome, Option, Some, None, List, [], ◌∷◌, length, drop, map, get_or, refl, sym, ap, subst, ◌∙◌, arith}
use Rattle.std.specs.Char.{IsScalar}
use Rattle.std.specs.Option.{SomeIff, unwrap_or}
use Rattle.std.specs.Char.Escape.{encode_utf16}
use Rattle.std.specs.Char.Utf16.{lone_unit_char, surrogate_pair_char}
use Rattle.std.proofs.lemmas.Bool.Decides.{nat_tests}
use Rattle.std.proofs.lemmas.Str.{utf16_chars_lone, utf16_chars_pair}
use lib.Utf8.{scalar, scalar_cases}
use Rattle.bstr.specs.Utf8.{bad, good}
use Rattle.lbk_bytes.specs.Front.{IsFront}
use Rattle.lbk_bytes.specs.Pieces.{pieces_of_utf16, pieces_of_utf32, utf16_piece}

-- two surrogates that make a scalar
abbrev pub IsPair : ℕ → ℕ → Type 0
IsPair u v = (0xD800 ≤ u) × (u < 0xDC00) × (0xDC00 ≤ v) × (v < 0xE000)

pub alone-begins : (units : List ℕ) → 0 < length units → ¬ (IsPair (get_or units 0 0) (get_or units 1 0))
    → pieces_of_utf16 units ≡ utf16_piece (lone_unit_char (get_or units 0 0)) ∷ pieces_of_utf16 (drop 1 units)
alone-begins [] some apart = absurd (omega arith)
alone-begins (u ∷ us) some apart = ap (map utf16_piece) (utf16_chars_lone u us apart)

pub pair-begins : (units : List ℕ) → 1 < length units → IsPair (get_or units 0 0) (get_or units 1 0)
    → pieces_of_utf16 units ≡ utf16_piece (Some (surrogate_pair_char (get_or units 0 0) (get_or units 1 0))) ∷ pieces_of_utf16 (drop 2 units)
pair-begins [] some pair = absurd (omega arith)
pair-begins (u ∷ []) some pair = absurd (omega arith)
pair-begins (u ∷ v ∷ us) some pair = ap (map utf16_piece) (utf16_chars_pair u v us pair)

pub lone-low : (u : ℕ) → u < 0xD800 → lone_unit_char u ≡ Some u
lone-low u below = grind (arith, nat_tests)

pub lone-high : (u : ℕ) → 0xE000 ≤ u → lone_unit_char u ≡ Some u
lone-high u above = grind (arith, nat_tests)

pub lone-surrogate : (u : ℕ) → 0xD800 ≤ u → u < 0xE000 → lone_unit_char u ≡ None
lone-surrogate u above below = grind (arith, nat_tests)

pub one-unit : (c : ℕ) → c < 0x10000 → length (encode_utf16 c) ≡ 1
one-unit c below = grind (arith, nat_tests)

pub two-units : (c : ℕ) → 0x10000 ≤ c → length (encode_utf16 c) ≡ 2
two-units c above = grind (arith, nat_tests)

-- UTF-16

pub missing-zero : (units : List ℕ) → length units < 2 → get_or units 1 0 ≡ 0
missing-zero [] few = refl
missing-zero (u ∷ []) few = refl
missing-zero (u ∷ v ∷ us) few = absurd (omega arith)

-- units that begin with a surrogate are some
pub some-unit : (units : List ℕ) → 0xD800 ≤ get_or units 0 0 → 0 < length units
some-unit [] above = absurd (omega arith)
some-unit (u ∷ us) above = omega arith

pub utf16-alone : (units : List ℕ) (c : ℕ) → 0 < length units → get_or units 0 0 < 65536 → IsScalar (get_or units 0 0) → c ≡ get_or units 0 0
    → IsFront pieces_of_utf16 units (record { scalar = c; size = 1 })
utf16-alone units c some few is_scalar same =
    let u = get_or units 0 0 in
    let cases = scalar_cases u is_scalar in
    let apart : ¬ (IsPair u (get_or units 1 0)) =
    λ pair. ⊎_elim (λ low. (let no : ⊥ = omega (arith, pair.0) in no)) (λ high. (let no : ⊥ = omega (arith, pair.1, high.0) in no)) cases in
    let lone = ⊎_elim (λ low. lone-low u low) (λ high. lone-high u high.0) cases in
    record {
      piece = utf16_piece (Some u);
      begins = alone-begins units some apart ∙ ap (λ o. utf16_piece o ∷ pieces_of_utf16 (drop 1 units)) lone;
      reads = sym same;
      sized = one-unit u few;
      some = omega arith;
      few = omega arith;
      within = omega arith;
    }

-- a unit that spells a scalar by itself, if it does
pub utf16-some : (units : List ℕ) (found : Option ℕ) (unit : ℕ) → 0 < length units → get_or units 0 0 < 65536 → unit ≡ get_or units 0 0
    → SomeIff found (IsScalar unit) unit → IfSome found (λ code. IsScalar code × IsFront pieces_of_utf16 units (record { scalar = code; size = 1 }))
utf16-some units None unit some few same iff = tt
utf16-some units (Some c) unit some few same iff =
    (subst IsScalar (sym iff.1) iff.0, utf16-alone units c some few (subst IsScalar same iff.0) (iff.1 ∙ same))

pub utf16-lone : (units : List ℕ) → 0xD800 ≤ get_or units 0 0 → get_or units 0 0 < 0xE000
    → ¬ (IsPair (get_or units 0 0) (get_or units 1 0))
    → IsFront pieces_of_utf16 units (record { scalar = 0xFFFD; size = 1 })
utf16-lone units above below apart = record {
  piece = bad 1;
  begins = alone-begins units (some-unit units above) apart
      ∙ ap (λ o. utf16_piece o ∷ pieces_of_utf16 (drop 1 units)) (lone-surrogate (get_or units 0 0) above below);
  reads = refl;
  sized = refl;
  some = omega arith;
  few = omega arith;
  within = some-unit units above;
}

pub utf16-pair : (units : List ℕ) (c : ℕ) → 1 < length units → IsPair (get_or units 0 0) (get_or units 1 0)
    → c ≡ surrogate_pair_char (get_or units 0 0) (get_or units 1 0)
    → IsFront pieces_of_utf16 units (record { scalar = c; size = 2 })
utf16-pair units c some pair same =
    let x = surrogate_pair_char (get_or units 0 0) (get_or units 1 0) in
    record {
      piece = utf16_piece (Some x);
      begins = pair-begins units some pair;
      reads = sym same;
      sized = two-units x (omega arith);
      some = omega arith;
      few = omega arith;
      within = omega arith;
    }

-- UTF-32

not-true : (b : Bool) → ¬ (b ≡ true) → b ≡ false
not-true true apart = absurd (apart refl)
not-true false apart = refl

pub utf32-front : (units : List ℕ) (found : Option ℕ) → 0 < length units → SomeIff found (IsScalar (get_or units 0 0)) (get_or units 0 0)
    → IsFront pieces_of_utf32 units (record { scalar = unwrap_or found 0xFFFD; size = 1 })
utf32-front [] found some iff = absurd (omega arith)
utf32-front (u ∷ us) None some iff = record {
  piece = bad 1;
  begins = ap (λ b. cond b (good u 1) (bad 1) ∷ pieces_of_utf32 us) (not-true (scalar u) iff);
  reads = refl;
  sized = refl;
  some = omega arith;
  few = omega arith;
  within = omega arith;
}
utf32-front (u ∷ us) (Some c) some iff = record {
  piece = good u 1;
  begins = ap (λ b. cond b (good u 1) (bad 1) ∷ pieces_of_utf32 us) iff.0;
  reads = sym iff.1;
  sized = refl;
  some = omega arith;
  few = omega arith;
  within = omega arith;
}

pub utf32-some : (units : List ℕ) (found : Option ℕ) → 0 < length units → SomeIff found (IsScalar (get_or units 0 0)) (get_or units 0 0)
    → IfSome found (λ code. IsScalar code × IsFront pieces_of_utf32 units (record { scalar = code; size = 1 }))
utf32-some units None some iff = tt
utf32-some units (Some c) some iff = (subst IsScalar (sym iff.1) iff.0, utf32-front units (Some c) some iff)
