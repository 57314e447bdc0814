-- A list of verdicts that a machine fills.
use Rattle.std.specs.Prelude.{ℕ, ◌^◌, ◌<◌, List, length, Option, Some, None}
use Rattle.lbk_rules.specs.declared.Kind.TheVariants.{No}
use Rattle.lbk_rules.specs.declared.Rule.TheVariants.{Lb15b}
use Rattle.lbk_rules.specs.declared.Verdict.{Verdict}

-- a held position has a placeholder until its verdict is known
abbrev pub placed : Option Verdict → Verdict
placed None = record { kind = No; rule = Lb15b }
placed (Some verdict) = verdict

-- a text as long as one of a passage: not empty, and below the greatest number of positions
pub record IsPassageText (text : List ℕ) : Type 0 where
  pub some : 0 < length text
  pub few : length text < 2 ^ 32
