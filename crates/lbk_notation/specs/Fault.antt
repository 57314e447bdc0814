-- When a line is refused.
use Rattle.std.specs.Prelude.{ℕ, ◌<◌, ◌≤◌, List, length, Some}
use Rattle.lbk_notation.specs.declared.faults.LineFault.{LineFault}
use Rattle.lbk_notation.specs.declared.faults.LineFault.TheVariants.{LineTooLong, Bad, Memory}
use Rattle.lbk_notation.specs.declared.marks.Form.{Form}
use Rattle.lbk_notation.specs.Grammar.{IsLine}
use Rattle.lbk_notation.specs.TestLine.{Line}
use Rattle.lbk_notation.specs.Place.{IsOutside, IsPlace}

-- the longest line, in bytes
abbrev pub longest : ℕ
longest = 268435456

-- a line that has marks
abbrev pub HasMarks : Form → List ℕ → Type 0
HasMarks form bytes = (line : Line) × IsLine form bytes (Some line)

-- what a fault says about the bytes; Memory says that they are not too long, and are a line with marks: every other
-- line needs no memory
abbrev pub IsFault : Form → List ℕ → LineFault → Type 0
IsFault form bytes LineTooLong = longest < length bytes
IsFault form bytes (Bad at) = (length bytes ≤ longest) × IsOutside form bytes × IsPlace form bytes at
IsFault form bytes Memory = (length bytes ≤ longest) × HasMarks form bytes
