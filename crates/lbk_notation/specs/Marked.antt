-- The line of a text: its scalars, and at each position the kind of the rules' verdict.
use Rattle.std.specs.Prelude.{ℕ, ◌+◌, List, map, length}
use Rattle.std.specs.List.{range_with_len}
use Rattle.std.specs.Str.{chars}
use Rattle.lbk_notation.specs.declared.marks.Mark.{Mark}
use Rattle.lbk_notation.specs.declared.marks.Mark.TheVariants as Marks
use Rattle.lbk_notation.specs.TestLine.{Line}
use Rattle.lbk_rules.specs.declared.Cell.{Cell}
use Rattle.lbk_rules.specs.declared.Kind.{Kind}
use Rattle.lbk_rules.specs.declared.Kind.TheVariants.{No, May, Must}
use Rattle.lbk_values.specs.declared.profile.Profile.{Profile}
use Rattle.lbk_rules.specs.Verdict.{verdict_in}

abbrev pub mark_of : Kind → Mark
mark_of No = Marks.No
mark_of May = Marks.May
mark_of Must = Marks.Must

-- the mark of position k
abbrev pub mark_at : Profile → List Cell → ℕ → Mark
mark_at profile cells k = mark_of (verdict_in profile cells k).kind

-- the marks of all positions, from the one before the first cell to the one after the last
abbrev pub marks_in : Profile → List Cell → List Mark
marks_in profile cells = map (mark_at profile cells) (range_with_len 0 (length cells + 1))

abbrev pub marked_text : (ℕ → Cell) → Profile → List ℕ → Line
marked_text cell profile text = record { scalars = chars text; marks = marks_in profile (map cell (chars text)) }
