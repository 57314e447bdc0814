-- What is decided before one scalar of a text, whatever its units.
use Rattle.std.specs.Prelude.{◌≡◌, ℕ, ◌+◌, ◌<◌, List, [], ◌∷◌, ◌++◌, map, drop}
use Rattle.bstr.specs.Utf8.{Decoded, decoded, lossy_chars, or_replacement}
use Rattle.lbk_rules.specs.declared.Cell.{Cell}
use Rattle.lbk_values.specs.declared.profile.Profile.{Profile}
use Rattle.lbk_rules.specs.Verdict.{verdict_between_in}
use Rattle.lbk_rules.specs.FlatTable.{KnowsTaken}
use Rattle.lbk_rules.specs.Rows.{verdict_shown}
use Rattle.lbk_bytes.specs.declared.deciding.Decided.{Decided}
use Rattle.lbk_bytes.specs.Reached.{scalars_of}

-- the pieces of a text from each of its units on
abbrev pub on_from : {A : Type 0} → (List A → List Decoded) → List A → ℕ → List Decoded
on_from pieces_of text at = pieces_of (drop at text)

-- after the scalars taken, the position at this unit is decided, and what begins there is taken
pub record IsUnitDecided (profile : Profile) (cell : ℕ → Cell) (on : ℕ → List Decoded) (at : ℕ) (taken : List ℕ)
    (found : Decided) : Type 0 where
  pub piece : Decoded
  pub begins : on at ≡ piece ∷ on found.at
  pub moved : found.at ≡ at + piece.size
  pub some : 0 < piece.size
  pub knows : KnowsTaken cell found.row (taken ++ or_replacement piece.char ∷ [])
  pub decides : verdict_shown found.shown
      ≡ verdict_between_in profile (map cell taken)
      (cell (or_replacement piece.char) ∷ map cell (scalars_of (on found.at)))

-- the scalar that some bytes begin with, or U+FFFD
abbrev pub scalar_at : List ℕ → ℕ → ℕ
scalar_at text at = or_replacement (decoded (drop at text)).char

-- the same of the bytes of a text in UTF-8
pub record IsDecided (profile : Profile) (cell : ℕ → Cell) (text : List ℕ) (at : ℕ) (taken : List ℕ)
    (found : Decided) : Type 0 where
  pub moved : found.at ≡ at + (decoded (drop at text)).size
  pub knows : KnowsTaken cell found.row (taken ++ scalar_at text at ∷ [])
  pub decides : verdict_shown found.shown
      ≡ verdict_between_in profile (map cell taken)
      (cell (scalar_at text at) ∷ map cell (lossy_chars (drop found.at text)))
