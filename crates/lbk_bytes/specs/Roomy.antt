-- Breaks that are written into a block, whatever room it has.
use Rattle.std.specs.Prelude.{ℕ, ◌≤◌, List, length}
use Rattle.lbk_rules.specs.declared.steps.Step.{Step}
use Rattle.lbk_bytes.specs.declared.fill_state.FillState.{FillState}
use Rattle.lbk_bytes.specs.declared.raw_break.RawBreak.{RawBreak}
use Rattle.lbk_bytes.specs.Reached.{IsInOrder, Reached}
use Rattle.lbk_bytes.specs.Shown.{given_in}
use Rattle.lbk_bytes.specs.Steps.{StepsOn}

-- a block has no more breaks than it holds
abbrev pub Holds : List RawBreak → ℕ → ℕ → ℕ → Type 0
Holds out count at stop = count ≤ length out

-- scalars of a text that begin before byte `stop` are taken one after another, and their breaks written into a block
abbrev pub BreaksOn : List (List Step) → List ℕ → List ℕ → ℕ → List RawBreak → FillState → List RawBreak → FillState → Type 0
BreaksOn = StepsOn Holds IsInOrder (λ profile cell text all last here out. Reached profile cell text all here (given_in out here.count))
