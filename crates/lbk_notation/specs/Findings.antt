-- The results of the lines of a test file.
use Rattle.std.specs.Prelude.{ℕ, ◌≤◌, List, [], ◌∷◌, length, None, Some, ⊤}
use Rattle.lbk_rules.specs.declared.Cell.{Cell}
use Rattle.lbk_values.specs.declared.profile.Profile.{Profile}
use Rattle.lbk_notation.specs.declared.faults.LineFault.TheVariants as Faults
use Rattle.lbk_notation.specs.declared.findings.Finding.{Finding}
use Rattle.lbk_notation.specs.declared.findings.Finding.TheVariants.{NoLine, Replayed, Bad, Long}
use Rattle.lbk_notation.specs.declared.marks.Form.{Form}
use Rattle.lbk_notation.specs.Fault.{longest, IsFault}
use Rattle.lbk_notation.specs.Grammar.{IsLine}
use Rattle.lbk_notation.specs.TestLine.{Line}
use Rattle.lbk_notation.specs.Outcome.{IsOutcome}

-- the result of a line: it is blank or a comment, or its marks and scalars compare so with the rules; or it is refused
abbrev pub IsFinding : (ℕ → Cell) → Form → Profile → List ℕ → Finding → Type 0
IsFinding cell form profile bytes NoLine = (length bytes ≤ longest) × IsLine form bytes None
IsFinding cell form profile bytes (Replayed outcome) =
    (length bytes ≤ longest)
    × ((line : Line) × IsLine form bytes (Some line) × IsOutcome cell form profile line outcome)
IsFinding cell form profile bytes (Bad at) = IsFault form bytes (Faults.Bad at)
IsFinding cell form profile bytes Long = IsFault form bytes Faults.LineTooLong

-- line by line
abbrev pub AreFindings : (ℕ → Cell) → Form → Profile → List (List ℕ) → List Finding → Type 0
AreFindings cell form profile [] [] = ⊤
AreFindings cell form profile [] (finding ∷ findings) = ⊥
AreFindings cell form profile (line ∷ lines) [] = ⊥
AreFindings cell form profile (line ∷ lines) (finding ∷ findings) =
    IsFinding cell form profile line finding × AreFindings cell form profile lines findings
