-- What `segment` writes for a passage: a line for the passage, one for each segment, and one for each word. Numbers are
-- decimal, and offsets count bytes of the whole text.
use Rattle.std.specs.Prelude.{ℕ, ◌+◌, List, [], ◌∷◌, ◌++◌, length, codes, decimal, if◌then◌else◌}
use Rattle.std.specs.List.{flat_map}
use Rattle.lbk_rules.specs.declared.Cell.{Cell}
use Rattle.lbk_rules.specs.declared.Kind.{Kind}
use Rattle.lbk_rules.specs.declared.Kind.TheVariants.{No, May, Must}
use Rattle.lbk_rules.specs.Labels.{label_of}
use Rattle.lbk_passage.specs.Marks.{Marked, text_of}
use Rattle.lbk_passage.specs.Pieces.{pieces_of}
use Rattle.lbk_passage.specs.Segments.{segments_of}
use Rattle.lbk_passage.specs.declared.passage.Piece.{Piece}
use Rattle.lbk_passage.specs.declared.passage.Segment.{Segment}
use Rattle.lbk_passage.specs.declared.lines.Whole.{Whole}

-- a letter, a space, the offset of a part's start, a space, and that of its end
abbrev pub part : List ℕ → ℕ → ℕ → List ℕ
part letter start end = letter ++ (32 ∷ (decimal start ++ (32 ∷ decimal end)))

abbrev pub kind_name : Kind → List ℕ
kind_name No = codes "No"
kind_name May = codes "May"
kind_name Must = codes "Must"

-- S, a segment of the passage that begins at `start`, and the kind and the rule at its end
abbrev pub segment_line : ℕ → Segment → List ℕ
segment_line start s =
    part (codes "S") (start + s.start) (start + s.end)
    ++ (32 ∷ (kind_name s.kind ++ (32 ∷ (label_of s.rule ++ 10 ∷ []))))

-- W and a word; other pieces have no line
abbrev pub word_line : ℕ → Piece → List ℕ
word_line start piece =
    if piece.word then part (codes "W") (start + piece.start) (start + piece.end) ++ 10 ∷ [] else []

-- P and the passage that begins at `start`
abbrev pub whole_line : ℕ → Whole → List ℕ
whole_line start whole = part (codes "P") start (start + whole.len) ++ 10 ∷ []

-- P and a passage of `len` bytes, its segments, and its words
abbrev pub passage_lines : ℕ → ℕ → List Segment → List Piece → List ℕ
passage_lines start len segments pieces =
    part (codes "P") start (start + len)
    ++ (10 ∷ (flat_map (segment_line start) segments ++ flat_map (word_line start) pieces))

-- the lines of a passage that begins at `start`
abbrev pub segmented_passage : (ℕ → Cell) → ℕ → List Marked → List ℕ
segmented_passage cell start ms =
    passage_lines start (length (text_of ms)) (segments_of ms) (pieces_of cell (text_of ms))
