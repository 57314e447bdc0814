-- The verdict of the rules at each position of a list of cells (UAX #14, section 6).
use Rattle.std.specs.Prelude.{ℕ, List, take, drop}
use Rattle.lbk_uax14.specs.declared.verdicts.Verdict.{Verdict}
use Rattle.lbk_values.specs.declared.profile.Profile.{Profile}
use Rattle.lbk_values.specs.declared.profile.Profile.TheVariants.{First}
use Rattle.lbk_uax14.specs.declared.cells.Cell.{Cell}
use Rattle.lbk_uax14.specs.Rules.{rule_list, first_match}

-- the verdict between the cells on the left and those on the right
unfoldable pub verdict_between_in : Profile → List Cell → List Cell → Verdict
verdict_between_in profile left right = first_match (rule_list profile) left right

abbrev pub verdict_between : List Cell → List Cell → Verdict
verdict_between left right = verdict_between_in First left right

-- the verdict at position k, with the first k cells on its left and the rest on its right
abbrev pub verdict_in : Profile → List Cell → ℕ → Verdict
verdict_in profile cells k = verdict_between_in profile (take k cells) (drop k cells)

abbrev pub verdict : List Cell → ℕ → Verdict
verdict cells k = verdict_in First cells k
