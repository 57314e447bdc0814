-- The passages of a text, each with its text, its breaks and its words, with offsets in the whole text.
use Rattle.std.specs.Prelude.{◌≡◌, ℕ, ◌+◌, List, [], ◌∷◌, map, filter, Option, IfSome, IsUtf8}
use Rattle.std.specs.Str.{chars}
use Rattle.lbk_ucd.specs.declared.tables.Files.{Files}
use Rattle.lbk_rules.specs.declared.Break.{Break}
use Rattle.lbk_rules.specs.declared.Cell.{Cell}
use Rattle.lbk_values.specs.declared.profile.Profile.{Profile}
use Rattle.lbk_passage.specs.Laws.{break_at}
use Rattle.lbk_passage.specs.Marks.{Marked, text_of}
use Rattle.lbk_passage.specs.Parts.{of_passages}
use Rattle.lbk_passage.specs.Passages.{passages}
use Rattle.lbk_passage.specs.Pieces.{pieces_of}
use Rattle.lbk_passage.specs.Segments.{segments_of}
use Rattle.lbk_passage.specs.declared.passage.Passage.{Passage}
use Rattle.lbk_passage.specs.declared.passage.Piece.{Piece}
use Rattle.lbk_passage.specs.declared.passage.Segment.{Segment}
use Rattle.lbk_files.specs.Cells.{cell_of_files}
use Rattle.lbk_cmd.specs.Headline.{ArePassagesOf}
use Rattle.lbk_cmd.specs.declared.owned.Word.{Word}

-- a passage's start, its bytes, and its breaks and words in order
pub record Owned : Type 0 where
  pub start : ℕ
  pub text : List ℕ
  pub breaks : List Break
  pub words : List Word

-- the word of a piece, if it is one, in a passage that begins at byte `start` of the text
abbrev pub word_at : ℕ → Piece → Word
word_at start p = record { start = start + p.start; end = start + p.end }

-- a passage with these bytes, segments and pieces, which begins at byte `start` of the text
abbrev pub owned_of : ℕ → List ℕ → List Segment → List Piece → Owned
owned_of start text segments pieces = record {
  start = start;
  text = text;
  breaks = map (break_at start) segments;
  words = map (word_at start) (filter (λ p. p.word) pieces);
}

-- the one that a segmenter lends
abbrev pub lent_as : Passage → Owned
lent_as p = owned_of p.start p.text.now p.segments.now p.pieces.now

-- the one of these marks
abbrev pub owned_passage : (ℕ → Cell) → ℕ → List Marked → Owned
owned_passage cell start ms = owned_of start (text_of ms) (segments_of ms) (pieces_of cell (text_of ms))

-- successive passages; the first one begins at byte `start` of the text
abbrev pub owned_from : (ℕ → Cell) → ℕ → List (List Marked) → List Owned
owned_from cell start ps = of_passages (λ at ms. owned_passage cell at ms ∷ []) start ps

-- the passages of some bytes
abbrev pub owned_passages : Profile → (ℕ → Cell) → List ℕ → List Owned
owned_passages profile cell bytes = owned_from cell 0 (passages profile cell (chars bytes))

-- the bytes read (all of the reader's, if it tells them) are a text, and these are its passages
pub record AreOwned (profile : Profile) (cell : ℕ → Cell) (unread : Option (List ℕ)) (list : List Owned) : Type 0 where
  pub bytes : List ℕ
  pub read : IfSome unread (λ input. bytes ≡ input)
  pub utf8 : IsUtf8 bytes
  pub is : list ≡ owned_passages profile cell bytes

-- the same with the cells of four property files; the main theorem holds for these passages
pub record AreRead (files : Files) (profile : Profile) (unread : Option (List ℕ)) (list : List Owned) : Type 0 where
  pub owned : AreOwned profile (cell_of_files files) unread list
  pub promised : ArePassagesOf files profile (chars owned.bytes)
      (passages profile (cell_of_files files) (chars owned.bytes))
