-- The meaning of a line of the notation: scalars, and a mark at each position, from the one before the first scalar to
-- the one after the last.
use Rattle.std.specs.Prelude.{ℕ, ◌+◌, ◌==◌, if◌then◌else◌, List, length, Option, Some, None}
use Rattle.lbk_notation.specs.declared.marks.Mark.{Mark}

pub record Line : Type 0 where
  pub scalars : List ℕ
  pub marks : List Mark

-- the line of these; there is one more mark than scalars
abbrev pub made : List ℕ → List Mark → Option Line
made scalars marks =
    if length marks == length scalars + 1 then Some (record { scalars = scalars; marks = marks }) else None
