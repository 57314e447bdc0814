-- Where bytes stop being a line of the notation.
use Rattle.std.specs.Prelude.{ℕ, ◌+◌, ◌<◌, ◌≤◌, List, ◌++◌, length, take, Option}
use Rattle.std.specs.List.{AllByRecursion}
use Rattle.lbk_notation.specs.declared.marks.Form.{Form}
use Rattle.lbk_notation.specs.TestLine.{Line}
use Rattle.lbk_notation.specs.Grammar.{IsLine}

abbrev pub IsBytes : List ℕ → Type 0
IsBytes bytes = AllByRecursion (λ byte. byte < 256) bytes

-- a prefix of some line
abbrev pub IsViable : Form → List ℕ → Type 0
IsViable form bytes = (more : List ℕ) × IsBytes more × (value : Option Line) × IsLine form (bytes ++ more) value

-- not a line of the grammar
abbrev pub IsOutside : Form → List ℕ → Type 0
IsOutside form bytes = (value : Option Line) → IsLine form bytes value → ⊥

-- the least offset up to which, inclusive, bytes are no longer a prefix of a line, or their length if all of them are
-- one
pub record IsPlace (form : Form) (bytes : List ℕ) (place : ℕ) : Type 0 where
  pub within : place ≤ length bytes
  pub before : (j : ℕ) → j < place → IsViable form (take (j + 1) bytes)
  pub here : place < length bytes → IsViable form (take (place + 1) bytes) → ⊥
