-- What is read at a byte of a text, and the first part from there on.
use Rattle.std.specs.Prelude.{◌≡◌, ℕ, ◌+◌, ◌<◌, ◌≤◌, Bool, List, ◌∷◌, ◌++◌, drop, length}
use Rattle.bstr.specs.Utf8.{Decoded, decoded, or_replacement, pieces}
use Rattle.lbk_words.specs.Letters.{has_letter}
use Rattle.lbk_words.specs.Words.{bytes_of, parts_of, scalars_of, scalars_on}

-- some bytes begin with this scalar, as they are read
abbrev pub IsReadAs : ℕ → Type 0
IsReadAs c = (bytes : List ℕ) × (c ≡ or_replacement (decoded bytes).char)

-- the scalar `c` is read at the byte `at`, and the next one at `end`
pub record IsReadAt (text : List ℕ) (at c end : ℕ) : Type 0 where
  pub grows : at < end
  pub within : end ≤ length text
  pub reads : pieces (drop at text) ≡ decoded (drop at text) ∷ pieces (drop end text)
  pub is : c ≡ or_replacement (decoded (drop at text)).char
  pub size : end ≡ at + (decoded (drop at text)).size

-- of the text from the byte `start` on, the first part between word boundaries ends at `end`
pub record IsFirstPiece (text : List ℕ) (start end : ℕ) (is_word : Bool) : Type 0 where
  pub part : List Decoded
  pub grows : start < end
  pub within : end ≤ length text
  pub reads : pieces (drop start text) ≡ part ++ pieces (drop end text)
  pub place : end ≡ start + bytes_of part
  pub first : parts_of (scalars_on text start) ≡ scalars_of part ∷ parts_of (scalars_on text end)
  pub word : is_word ≡ has_letter (scalars_of part)
