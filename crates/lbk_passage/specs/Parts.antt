-- The passages, segments and pieces of a text that is decided in parts.
use Rattle.std.specs.Prelude.{ℕ, ◌+◌, Bool, List, [], ◌∷◌, ◌++◌, length, map, if◌then◌else◌}
use Rattle.lbk_rules.specs.declared.Cell.{Cell}
use Rattle.lbk_rules.specs.declared.Rule.{Rule}
use Rattle.lbk_values.specs.declared.profile.Profile.{Profile}
use Rattle.lbk_rules.specs.Joins.{end_before_more, with_last}
use Rattle.lbk_rules.specs.Marks.{Marked, ended, text_of}
use Rattle.lbk_passage.specs.Passages.{passages}
use Rattle.lbk_passage.specs.Pieces.{pieces_of}
use Rattle.lbk_passage.specs.Segments.{segments_of}
use Rattle.lbk_passage.specs.declared.passage.Piece.{Piece}
use Rattle.lbk_passage.specs.declared.passage.Segment.{Segment}

-- the passages of a part: where another part follows, the last of them ends by rule 4 or 5
abbrev pub passages_in : Profile → (ℕ → Cell) → Bool → List ℕ → List (List Marked)
passages_in profile cell follows part =
    if follows then with_last (ended (end_before_more cell part)) (passages profile cell part)
    else passages profile cell part

-- what is said of passages one after another, joined: `say at ms` of one that begins at byte `at` of the text. The
-- first begins at byte `at`
abbrev pub of_passages : {X : Type 0} → (ℕ → List Marked → List X) → ℕ → List (List Marked) → List X
of_passages say at [] = []
of_passages say at (ms ∷ passages) = say at ms ++ of_passages say (at + length (text_of ms)) passages

-- a segment so many bytes further on · by another rule
abbrev pub moved_segment : ℕ → Segment → Segment
moved_segment bytes s = record { start = bytes + s.start; end = bytes + s.end; kind = s.kind; rule = s.rule }

abbrev pub segment_by_rule : Rule → Segment → Segment
segment_by_rule rule s = record { start = s.start; end = s.end; kind = s.kind; rule = rule }

-- the segments of passages, by their places in the text
abbrev pub segments_at : ℕ → List (List Marked) → List Segment
segments_at at passages = of_passages (λ start ms. map (moved_segment start) (segments_of ms)) at passages

-- the segments of a part by itself, the last of them by the rule that it has where another part follows
abbrev pub segments_before : Profile → (ℕ → Cell) → Bool → List ℕ → List Segment
segments_before profile cell follows part =
    if follows
    then with_last (segment_by_rule (end_before_more cell part).rule) (segments_at 0 (passages profile cell part))
    else segments_at 0 (passages profile cell part)

-- and at their places in the text
abbrev pub segments_in : Profile → (ℕ → Cell) → ℕ → Bool → List ℕ → List Segment
segments_in profile cell at follows part = map (moved_segment at) (segments_before profile cell follows part)

-- a piece so many bytes further on
abbrev pub moved_piece : ℕ → Piece → Piece
moved_piece bytes p = record { start = bytes + p.start; end = bytes + p.end; word = p.word }

-- the pieces of passages, by their places in the text
abbrev pub pieces_at : (ℕ → Cell) → ℕ → List (List Marked) → List Piece
pieces_at cell at passages = of_passages (λ start ms. map (moved_piece start) (pieces_of cell (text_of ms))) at passages

-- the pieces of a part at their places in the text: whether another part follows is all one to them
abbrev pub pieces_in : Profile → (ℕ → Cell) → ℕ → Bool → List ℕ → List Piece
pieces_in profile cell at follows part = map (moved_piece at) (pieces_at cell 0 (passages profile cell part))
