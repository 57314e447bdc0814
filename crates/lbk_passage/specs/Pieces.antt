-- The pieces of a text at its word boundaries (UAX #29, section 4), and which of them are words.
use Rattle.std.specs.Prelude.{◌≡◌, ℕ, ◌+◌, ◌<◌, ◌≤◌, Bool, List, [], ◌∷◌, ◌++◌, drop, length, IsUtf8, vec_capacity}
use Rattle.std.specs.Prelude.{IfOk, OnErr, Result}
use Rattle.std.specs.List.{list_any}
use Rattle.std.specs.Str.{chars}
use Rattle.unicode_segmentation.specs.Word.{word_bounds}
use Rattle.lbk_rules.specs.declared.Cell.{Cell}
use Rattle.lbk_passage.specs.declared.passage.Piece.{Piece}
use Rattle.lbk_passage.specs.declared.front.Front.{Front}
use Rattle.lbk_passage.specs.Front.{items_of}
use Rattle.lbk_passage.specs.Room.{Grows}

-- some scalar of the piece is a letter or a number
abbrev pub is_word : (ℕ → Cell) → List ℕ → Bool
is_word cell piece = list_any (λ c. (cell c).letter) (chars piece)

-- pieces given by their bytes, of which the first begins at byte `at`
abbrev pub pieces_from : (ℕ → Cell) → ℕ → List (List ℕ) → List Piece
pieces_from cell at [] = []
pieces_from cell at (piece ∷ pieces) =
    record { start = at; end = at + length piece; word = is_word cell piece }
    ∷ pieces_from cell (at + length piece) pieces

-- the pieces of a text
unfoldable pub pieces_of : (ℕ → Cell) → List ℕ → List Piece
pieces_of cell text = pieces_from cell 0 (word_bounds text)

-- those from the boundary `at` on
abbrev pub pieces_on : (ℕ → Cell) → List ℕ → ℕ → List Piece
pieces_on cell text at = pieces_from cell at (word_bounds (drop at text))

-- the letters that a source of cells knows
abbrev pub letter_by : (ℕ → Cell) → ℕ → Bool
letter_by cell code = (cell code).letter

-- a piece from one byte up to another
abbrev pub piece_of : ℕ → ℕ → Bool → Piece
piece_of start end word = record { start = start; end = end; word = word }

-- the pieces of a text from the boundary `start` up to the boundary `next` were put behind those of a list
pub record IsCutOn (cell : ℕ → Cell) (text : List ℕ) (start : ℕ) (old new : List Piece) (next : ℕ) : Type 0 where
  pub cut : new ++ pieces_on cell text next ≡ old ++ pieces_on cell text start
  pub utf8 : IsUtf8 (drop next text)
  pub within : next ≤ length text

-- so they were, up to a boundary that is returned, or there was no room for all that are left
pub record CutsOn {E : Type 0} (cell : ℕ → Cell) (text : List ℕ) (start : ℕ) (old new : Front Piece) (r : Result ℕ E) : Type 0 where
  pub cut : IfOk r (IsCutOn cell text start (items_of old) (items_of new))
  pub grows : Grows old new
  pub full : OnErr r (vec_capacity old.items < old.count + length (pieces_on cell text start))
