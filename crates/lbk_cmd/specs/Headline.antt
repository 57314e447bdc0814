-- The main theorem: the properties of the passages of a text.
use Rattle.std.specs.Prelude.{◌≡◌, ℕ, List, Some}
use Rattle.std.specs.List.{AllByRecursion, flat_map}
use Rattle.lbk_ucd.specs.declared.tables.Files.{Files}
use Rattle.lbk_rules.specs.declared.Cell.{Cell}
use Rattle.lbk_values.specs.declared.profile.Profile.{Profile}
use Rattle.lbk_passage.specs.Breaks.{breaks}
use Rattle.lbk_passage.specs.Laws.{EndsOnce, segment_breaks}
use Rattle.lbk_passage.specs.Marks.{Marked, marks, scalars_of}
use Rattle.lbk_notation.specs.declared.marks.Form.TheVariants.{Kinds}
use Rattle.lbk_notation.specs.Grammar.{IsLine}
use Rattle.lbk_notation.specs.Shown.{passage_line, passage_marks}
use Rattle.lbk_files.specs.Cells.{cell_of_files}
use Rattle.lbk_cmd.specs.Show.{verdicts_of}

-- the line written for a passage means its scalars and marks
abbrev pub IsReadBack : List Marked → Type 0
IsReadBack ms = IsLine Kinds (passage_line (scalars_of ms) (verdicts_of ms))
    (Some (passage_marks (scalars_of ms) (verdicts_of ms)))

-- the passages, joined, are the text; their marks, joined, are those that the rule list gives on the whole text, by these
-- cells; a line must end after the last mark of each, and after no other; their segments end at the breaks of the whole
-- text; and the line written for each means its scalars and marks
pub record ArePassagesBy (cell : ℕ → Cell) (profile : Profile) (text : List ℕ)
    (passages : List (List Marked)) : Type 0 where
  pub joined : flat_map scalars_of passages ≡ text
  pub marked : flat_map (λ ms. ms) passages ≡ marks profile cell text
  pub cut : AllByRecursion EndsOnce passages
  pub broken : segment_breaks 0 passages ≡ breaks profile cell text
  pub lines : AllByRecursion IsReadBack passages

-- so it is by the cells of four property files
abbrev pub ArePassagesOf : Files → Profile → List ℕ → List (List Marked) → Type 0
ArePassagesOf files = ArePassagesBy (cell_of_files files)
