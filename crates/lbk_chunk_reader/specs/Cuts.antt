-- The cuts of a text, passage by passage.
use Rattle.std.specs.Prelude.{ℕ, ◌+◌, List, [], ◌∷◌, ◌++◌, length, map}
use Rattle.lbk_rules.specs.declared.Cell.{Cell}
use Rattle.lbk_passage.specs.Laws.{break_at}
use Rattle.lbk_passage.specs.Marks.{Marked, text_of}
use Rattle.lbk_passage.specs.Pieces.{pieces_of}
use Rattle.lbk_passage.specs.Segments.{segments_of}
use Rattle.lbk_passage.specs.declared.passage.Piece.{Piece}
use Rattle.lbk_passage.specs.declared.passage.Segment.{Segment}
use Rattle.lbk_chunk_reader.specs.PassageWords.{words_in_pieces}
use Rattle.lbk_chunks.specs.declared.cut.Cut.{Cut}
use Rattle.lbk_chunks.specs.Cuts.{cuts_among}

-- the cuts of a passage with these segments and pieces that begins at byte `start`, after so many words
abbrev pub cuts_between : ℕ → ℕ → List Segment → List Piece → List Cut
cuts_between start words segments pieces =
    cuts_among words (words_in_pieces start pieces) (map (break_at start) segments)

-- the cuts of passages, given by their marks; the first begins at byte `start`, after so many words
abbrev pub cuts_of_passages : (ℕ → Cell) → ℕ → ℕ → List (List Marked) → List Cut
cuts_of_passages cell start words [] = []
cuts_of_passages cell start words (ms ∷ passages) =
    let pieces = pieces_of cell (text_of ms) in
    cuts_between start words (segments_of ms) pieces
    ++ cuts_of_passages cell (start + length (text_of ms)) (words + length (words_in_pieces start pieces)) passages
