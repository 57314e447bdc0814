-- Verdicts of a machine, written to a list of marks, each at its position.
use Rattle.std.specs.Prelude.{ℕ, List, Option, Some, None, slice_set}
use Rattle.lbk_notation.specs.declared.marks.Mark.{Mark}
use Rattle.lbk_notation.specs.declared.marks.Mark.TheVariants.{No}
use Rattle.lbk_notation.specs.Marked.{mark_of}
use Rattle.lbk_rules.specs.declared.Verdict.{Verdict}

abbrev pub put : Option (ℕ × Verdict) → List Mark → List Mark
put None marks = marks
put (Some answer) marks = slice_set marks answer.0 (mark_of answer.1.kind)

-- a held position has a placeholder until its verdict is known
abbrev pub mark_now : Option Verdict → Mark
mark_now None = No
mark_now (Some verdict) = mark_of verdict.kind
