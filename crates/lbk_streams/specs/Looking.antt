-- What stands on both sides of a place of a text.
use Rattle.std.specs.Prelude.{◌≡◌, ℕ, Bool, ◌&&◌, List, [], ◌∷◌, ◌++◌, take, drop}
use Rattle.std.specs.Char.Utf16.{is_high_surrogate, is_low_surrogate}
use Rattle.bstr.specs.Utf8.{decoded, lossy_chars, or_replacement}
use Rattle.lbk_rules.specs.declared.Cell.{Cell}
use Rattle.lbk_rules.specs.declared.Class.{Class}
use Rattle.lbk_bytes.specs.Reached.{scalars_of}
use Rattle.lbk_units.specs.Units.{pieces_of_utf16}

-- what begins at this byte is of this class
abbrev pub NextIs : (ℕ → Cell) → List ℕ → ℕ → Class → Type 0
NextIs cell text place class = class ≡ (cell (or_replacement (decoded (drop place text)).char)).class

-- the last scalar before this byte is of this class
pub record LastIs (cell : ℕ → Cell) (text : List ℕ) (place : ℕ) (class : Class) : Type 0 where
  pub front : List ℕ
  pub last : ℕ
  pub scalars : lossy_chars (take place text) ≡ front ++ last ∷ []
  pub class_is : class ≡ (cell last).class

-- two units of UTF-16 are a surrogate pair
abbrev pub is_pair : ℕ → ℕ → Bool
is_pair high low = is_high_surrogate high && is_low_surrogate low

-- the units before this one end in this scalar, read as UTF-16
pub record EndsInScalar (text : List ℕ) (place c : ℕ) : Type 0 where
  pub front : List ℕ
  pub scalars : scalars_of (pieces_of_utf16 (take place text)) ≡ front ++ c ∷ []
