-- The output for the passages of a text: the lines of each, joined.
use Rattle.std.specs.Prelude.{ℕ, ◌+◌, List, [], ◌∷◌, ◌++◌, length}
use Rattle.lbk_rules.specs.declared.Cell.{Cell}
use Rattle.lbk_passage.specs.Marks.{Marked, text_of}
use Rattle.lbk_passage.specs.Lines.{segmented_passage}
use Rattle.lbk_cmd.specs.Mark.{signed_passage}
use Rattle.lbk_cmd.specs.Show.{shown_passage}

-- the lines of successive passages; `lines` has those of a passage that begins at a byte of the text, and the first one
-- begins at `start`
abbrev pub lines_from : (ℕ → List Marked → List ℕ) → ℕ → List (List Marked) → List ℕ
lines_from lines start [] = []
lines_from lines start (ms ∷ passages) = lines start ms ++ lines_from lines (start + length (text_of ms)) passages

-- what `mark` writes for some passages, with this sign
abbrev pub signed_text : List ℕ → (ℕ → Cell) → List (List Marked) → List ℕ
signed_text mark cell passages = lines_from (λ start ms. signed_passage mark cell ms) 0 passages

-- what `show` writes for some passages
abbrev pub show_text : List (List Marked) → List ℕ
show_text passages = lines_from (λ start ms. shown_passage ms) 0 passages

-- what `segment` writes for some passages
abbrev pub segment_text : (ℕ → Cell) → List (List Marked) → List ℕ
segment_text cell passages = lines_from (segmented_passage cell) 0 passages
