-- Cells that are the same for scalar values give a text the same pieces.
use Rattle.std.proofs.Common.{◌≡◌, ℕ, ◌+◌, Bool, true, false, ◌&&◌, ◌||◌, List, [], ◌∷◌, ◌++◌, length, map, chars, refl, sym, ap, ap₂, ◌∙◌}
use Rattle.std.specs.Prelude.{encode_utf8_all, if◌then◌else◌}
use Rattle.std.specs.Char.{IsScalar}
use Rattle.std.specs.List.{AllByRecursion, list_any}
use Rattle.std.proofs.Math.Utf8.{scalar, scalars}
use Rattle.std.proofs.lemmas.Bool.{and_parts}
use Rattle.std.proofs.lemmas.Str.{chars-encodes}
use Rattle.unicode_segmentation.specs.Segments.{Rule, cut, prepend, segments}
use Rattle.unicode_segmentation.specs.Word.{is_word_break}
use Rattle.lbk_rules.specs.declared.Cell.{Cell}
use Rattle.lbk_passage.specs.Pieces.{is_word, pieces_from, pieces_of}
use Rattle.lbk_passage.specs.declared.passage.Piece.{Piece}

abbrev AreScalars : List ℕ → Type 0
AreScalars cs = scalars cs ≡ true

abbrev pub AgreeOnScalars : (ℕ → Cell) → (ℕ → Cell) → Type 0
AgreeOnScalars a b = (c : ℕ) → IsScalar c → a c ≡ b c

prepended : (c : ℕ) (parts : List (List ℕ)) → scalar c ≡ true → AllByRecursion AreScalars parts → AllByRecursion AreScalars (prepend (c ∷ []) parts)
prepended c [] is all = (ap (λ b. b && true) is, tt)
prepended c (part ∷ parts) is all = (ap₂ (λ b d. b && d) is all.0, all.1)

pub scalars_parts : (xs ys : List ℕ) → scalars (xs ++ ys) ≡ true → (scalars xs ≡ true) × (scalars ys ≡ true)
scalars_parts [] ys all = (refl, all)
scalars_parts (x ∷ xs) ys all =
    let both = and_parts (scalar x) (scalars (xs ++ ys)) all in
    let rest = scalars_parts xs ys both.1 in
    (ap₂ (λ b d. b && d) both.0 rest.0, rest.1)

-- each part of a text's scalars has scalars alone
parts_scalars : (rule : Rule) (before cs after : List ℕ) → scalars cs ≡ true → AllByRecursion AreScalars (cut rule before cs after)
unfolding cut
parts_scalars rule before [] after all = tt
parts_scalars rule before (c ∷ cs) after all =
    let both = and_parts (scalar c) (scalars cs) all in
    let rest = parts_scalars rule (c ∷ before) cs after both.1 in
    elim (rule (c ∷ before) (cs ++ after)) as (λ b. AllByRecursion AreScalars
    (if b then (c ∷ []) ∷ cut rule (c ∷ before) cs after else prepend (c ∷ []) (cut rule (c ∷ before) cs after))) [
      | true ↦ (ap (λ b. b && true) both.0, rest)
      | false ↦ prepended c (cut rule (c ∷ before) cs after) both.0 rest
    ]

module _ (a b : ℕ → Cell) (same : AgreeOnScalars a b) where
  letters_same : (cs : List ℕ) → scalars cs ≡ true → list_any (λ c. (a c).letter) cs ≡ list_any (λ c. (b c).letter) cs
  letters_same [] all = refl
  letters_same (c ∷ cs) all =
      let both = and_parts (scalar c) (scalars cs) all in
      ap₂ (λ x y. x || y) (ap (λ (cell : Cell). cell.letter) (same c both.0)) (letters_same cs both.1)

  word_same : (part : List ℕ) → scalars part ≡ true → is_word a (encode_utf8_all part) ≡ is_word b (encode_utf8_all part)
  word_same part all =
      let own = chars-encodes part all in
      ap (list_any (λ c. (a c).letter)) own ∙ letters_same part all ∙ sym (ap (list_any (λ c. (b c).letter)) own)

  from_same : (at : ℕ) (parts : List (List ℕ)) → AllByRecursion AreScalars parts
      → pieces_from a at (map encode_utf8_all parts) ≡ pieces_from b at (map encode_utf8_all parts)
  from_same at [] all = refl
  from_same at (part ∷ parts) all =
      let end = at + length (encode_utf8_all part) in
      ap₂ (λ (w : Bool) (ps : List Piece). record { start = at; end = end; word = w } ∷ ps) (word_same part all.0) (from_same end parts all.1)

  pub pieces_same : (cs : List ℕ) → scalars cs ≡ true → pieces_of a (encode_utf8_all cs) ≡ pieces_of b (encode_utf8_all cs)
  unfolding pieces_of segments
  pieces_same cs all =
      let own = chars-encodes cs all in
      from_same 0 (cut is_word_break [] (chars (encode_utf8_all cs)) [])
      (parts_scalars is_word_break [] (chars (encode_utf8_all cs)) [] (ap scalars own ∙ all))
