-- What is kept of the scalars and marks of a line.
use Rattle.std.specs.Prelude.{◌≡◌, ℕ, false, List, length, Option, Some, Result, Ok, Err}
use Rattle.lbk_notation.specs.declared.content.Content.{Content}
use Rattle.lbk_notation.specs.declared.faults.LineFault.{LineFault}
use Rattle.lbk_notation.specs.declared.faults.LineFault.TheVariants.{Memory}
use Rattle.lbk_notation.specs.declared.marks.Mark.{Mark}
use Rattle.lbk_notation.specs.TestLine.{Line, made}

-- these are counted, and kept unless memory is short
pub record Holds (content : Content) (scalars : List ℕ) (marks : List Mark) : Type 0 where
  pub scalars_counted : content.scalar_count ≡ length scalars
  pub marks_counted : content.mark_count ≡ length marks
  pub scalars_kept : content.is_short ≡ false → content.scalars.items ≡ scalars
  pub marks_kept : content.is_short ≡ false → content.marks.items ≡ marks

-- the line of these, or none; or that memory is short for a line
abbrev pub IsAnswer : List ℕ → List Mark → Result (Option Line) LineFault → Type 0
IsAnswer scalars marks (Ok line) = line ≡ made scalars marks
IsAnswer scalars marks (Err Memory) = (line : Line) × (made scalars marks ≡ Some line)
IsAnswer scalars marks (Err fault) = ⊥
