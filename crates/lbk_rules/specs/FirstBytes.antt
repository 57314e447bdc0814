-- What the first byte of a scalar in UTF-8 tells of it.
use Rattle.std.specs.Prelude.{◌≡◌, ◌<◌, ℕ, Bool, true, false, not, List, encode_utf8, slice_index_or}
use Rattle.std.specs.Char.{IsScalar}
use Rattle.lbk_uax14.specs.declared.cells.Cell.{Cell}
use Rattle.lbk_uax14.specs.Ends.{ends_line}
use Rattle.lbk_rules.specs.declared.first_bytes.FirstBytes.{FirstBytes}

-- the first byte of a scalar
abbrev pub first_byte : ℕ → ℕ
first_byte code = slice_index_or (encode_utf8 code) 0 0

-- no scalar before `count` whose first byte has true in the list has a cell that fails
abbrev pub NoneFailTo : (Cell → Bool) → (ℕ → Cell) → List Bool → ℕ → Type 0
NoneFailTo fails cell flags count = (code : ℕ) → code < count → IsScalar code
    → slice_index_or flags (first_byte code) false ≡ true → fails (cell code) ≡ false

-- the same of all scalars
abbrev pub NoneFail : (Cell → Bool) → (ℕ → Cell) → List Bool → Type 0
NoneFail fails cell flags = (code : ℕ) → IsScalar code → slice_index_or flags (first_byte code) false ≡ true
    → fails (cell code) ≡ false

-- a line must end behind no scalar whose first byte has true in the list
abbrev pub AreQuiet : (ℕ → Cell) → List Bool → Type 0
AreQuiet = NoneFail (λ cell. ends_line cell.class)

-- each scalar whose first byte has true in the list is a letter or a number
abbrev pub AreLetters : (ℕ → Cell) → List Bool → Type 0
AreLetters = NoneFail (λ cell. not cell.letter)

-- what is told by first bytes holds of the scalars before `count`
pub record AreTold (cell : ℕ → Cell) (told : FirstBytes) (count : ℕ) : Type 0 where
  pub quiet : NoneFailTo (λ cell. ends_line cell.class) cell told.are_quiet count
  pub letters : NoneFailTo (λ cell. not cell.letter) cell told.are_letters count
