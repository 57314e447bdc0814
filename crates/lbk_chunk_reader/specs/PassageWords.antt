-- The words of passages, with offsets from the text's start.
use Rattle.std.specs.Prelude.{ℕ, ◌+◌, List, [], ◌∷◌, ◌++◌, length, if◌then◌else◌}
use Rattle.lbk_rules.specs.declared.Cell.{Cell}
use Rattle.lbk_rules.specs.Marks.{Marked, text_of}
use Rattle.lbk_passage.specs.Pieces.{pieces_of}
use Rattle.lbk_passage.specs.declared.passage.Piece.{Piece}
use Rattle.lbk_words.specs.declared.word.Word.{Word}

-- a word so many bytes further on
abbrev pub moved_word : ℕ → Word → Word
moved_word bytes word = record { start = bytes + word.start; end = bytes + word.end }

-- the pieces that are words in a passage that begins at byte `start`
abbrev pub words_in_pieces : ℕ → List Piece → List Word
words_in_pieces start [] = []
words_in_pieces start (piece ∷ pieces) =
    let others = words_in_pieces start pieces in
    if piece.word then record { start = start + piece.start; end = start + piece.end } ∷ others else others

-- the words of passages, given by their marks; the first begins at byte `start`
abbrev pub words_of_passages : (ℕ → Cell) → ℕ → List (List Marked) → List Word
words_of_passages cell start [] = []
words_of_passages cell start (ms ∷ passages) =
    words_in_pieces start (pieces_of cell (text_of ms)) ++ words_of_passages cell (start + length (text_of ms)) passages
