-- Which positions get their verdicts when a text is taken cell by cell.
use Rattle.std.specs.Prelude.{ℕ, List, [], ◌∷◌, Option, Some, None}
use Rattle.lbk_uax14.specs.declared.verdicts.Verdict.{Verdict}

-- the position that is named, if one is
abbrev pub named : Option ℕ → List ℕ
named None = []
named (Some position) = position ∷ []

-- the position of a late verdict, if there is one
abbrev pub came_late : Option (ℕ × Verdict) → List ℕ
came_late None = []
came_late (Some answer) = answer.0 ∷ []

-- this position, if its verdict comes now
abbrev pub came_now : ℕ → Option Verdict → List ℕ
came_now position None = []
came_now position (Some _) = position ∷ []
