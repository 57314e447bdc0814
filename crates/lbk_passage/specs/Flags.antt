-- What bytes tell of scalars: that no line must end behind them, and that they are letters.
use Rattle.std.specs.Prelude.{◌≡◌, ℕ, ◌<◌, ◌≤◌, Bool, true, false, not, List, ◌++◌, Option, Some, None, length}
use Rattle.std.specs.Prelude.{slice_index_or, encode_utf8, encode_utf8_all, drop}
use Rattle.std.specs.Char.{IsScalar}
use Rattle.std.specs.Str.{chars, IsCharBoundary}
use Rattle.lbk_masks.specs.Sets.{is_in}
use Rattle.lbk_masks.specs.declared.halves.HalfSets.{HalfSets}
use Rattle.lbk_rules.specs.declared.Class.{Class}
use Rattle.lbk_rules.specs.declared.Cell.{Cell}
use Rattle.lbk_rules.specs.Ends.{ends_line}
use Rattle.lbk_rules.specs.FirstBytes as FirstBytes
use Rattle.lbk_passage.specs.Stays.{stays, last_class}

-- a line must end behind no scalar whose first byte has true in the list, and each byte that continues a scalar has
-- true
pub record AreQuiet (cell : ℕ → Cell) (is_quiet : List Bool) : Type 0 where
  pub first : FirstBytes.AreQuiet cell is_quiet
  pub later : (byte : ℕ) → 128 ≤ byte → byte < 192 → slice_index_or is_quiet byte false ≡ true

-- each byte from the place `start` to the place `end` has true in the list
abbrev pub ArePassed : List Bool → List ℕ → ℕ → ℕ → Type 0
ArePassed is_quiet bytes start end = (k : ℕ) → start ≤ k → k < end
    → slice_index_or is_quiet (slice_index_or bytes k 0) false ≡ true

-- these sets have all bytes that have false in the list, and no others
abbrev pub AreLoud : HalfSets → List Bool → Type 0
AreLoud sets is_quiet = (byte : ℕ) → byte < 256 → is_in sets 255 byte ≡ not (slice_index_or is_quiet byte false)

-- a line must end behind none of the scalars that begin from the place `start` to the place `end`
abbrev pub AreCalm : (ℕ → Cell) → List ℕ → ℕ → ℕ → Type 0
AreCalm cell piece start end = (k c : ℕ) (more : List ℕ) → start ≤ k → k < end → IsScalar c
    → drop k piece ≡ encode_utf8 c ++ more → ends_line (cell c).class ≡ false

-- up to which length the first byte tells of a piece whether it is a word: any where it begins letters and numbers alone
abbrev pub length_told : Bool → ℕ
length_told true = 4294967295
length_told false = 1

-- each byte that is a scalar by itself has in the list the length that it tells of, and each byte with more than 1
-- begins letters and numbers alone
pub record AreLetters (cell : ℕ → Cell) (lengths : List ℕ) : Type 0 where
  pub told : (byte : ℕ) → byte < 128 → slice_index_or lengths byte 0 ≡ length_told (cell byte).letter
  pub longer : (code : ℕ) → IsScalar code → 128 ≤ code → 1 < slice_index_or lengths (FirstBytes.first_byte code) 0
      → (cell code).letter ≡ true

-- a line must end behind a scalar of this class, whatever comes, but for a line feed
abbrev pub is_end : Option Class → Bool
is_end None = false
is_end (Some class) = ends_line class

-- the scalars of a piece up to the byte `len`, behind one of class `first`, belong to its paragraph, and the last of
-- all is of class `last`
pub record Passes (cell : ℕ → Cell) (first : Option Class) (piece : List ℕ) (room len : ℕ) (last : Option Class) : Type
    0 where
  pub taken : List ℕ
  pub all : chars piece ≡ taken ++ chars (drop len piece)
  pub len_is : len ≡ length (encode_utf8_all taken)
  pub place : IsCharBoundary piece len
  pub within : len ≤ room
  pub none_ends : stays cell first taken ≡ true
  pub last_is : last ≡ last_class cell first taken
