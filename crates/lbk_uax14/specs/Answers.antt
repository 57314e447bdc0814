-- Verdicts written to a list, each at its position.
use Rattle.std.specs.Prelude.{ℕ, List, Option, Some, None, slice_set}
use Rattle.lbk_uax14.specs.declared.verdicts.Verdict.{Verdict}

-- the list after a verdict was written
abbrev pub written : Option (ℕ × Verdict) → List Verdict → List Verdict
written None verdicts = verdicts
written (Some answer) verdicts = slice_set verdicts answer.0 answer.1

-- how many verdicts these are
abbrev pub count_of : {A : Type 0} → Option A → ℕ
count_of None = 0
count_of (Some _) = 1
