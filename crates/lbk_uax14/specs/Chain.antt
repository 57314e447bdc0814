-- The rule list read group by group, as the code reads it: each group passes on what it does not decide.
use Rattle.std.specs.Prelude.{if◌then◌else◌, List, [], ◌∷◌}
use Rattle.lbk_uax14.specs.declared.verdicts.Verdict.{Verdict}
use Rattle.lbk_values.specs.declared.profile.Profile.{Profile}
use Rattle.lbk_uax14.specs.declared.verdicts.Kind.TheVariants.{May}
use Rattle.lbk_uax14.specs.declared.verdicts.Rule.TheVariants.{Lb31}
use Rattle.lbk_uax14.specs.declared.cells.Cell.{Cell}
use Rattle.lbk_uax14.specs.Sides.{Side}
use Rattle.lbk_uax14.specs.Rules.{Line, cell_rules, joining_rules, opening_rules, quotation_rules, space_rules}
use Rattle.lbk_uax14.specs.Rules.{hyphen_rules, affix_rules, number_rules, syllable_rules, letter_rules}
use Rattle.lbk_uax14.specs.Units.{units}
use Rattle.lbk_uax14.specs.Facts.{units_before}

-- the verdict of the first line that matches, or else the given verdict
abbrev pub choose : List Line → Side → Side → Verdict → Verdict
choose [] left right otherwise = otherwise
choose (line ∷ lines) left right otherwise =
    if line.holds left right then line.answer else choose lines left right otherwise

unfoldable pub from_28 : Side → Side → Verdict
from_28 left right = choose letter_rules left right (record { kind = May; rule = Lb31 })

unfoldable pub from_26 : Side → Side → Verdict
from_26 left right = choose syllable_rules left right (from_28 left right)

unfoldable pub from_25 : Side → Side → Verdict
from_25 left right = choose number_rules left right (from_26 left right)

unfoldable pub from_23 : Side → Side → Verdict
from_23 left right = choose affix_rules left right (from_25 left right)

unfoldable pub from_19 : Side → Side → Verdict
from_19 left right = choose hyphen_rules left right (from_23 left right)

unfoldable pub from_16 : Side → Side → Verdict
from_16 left right = choose space_rules left right (from_19 left right)

unfoldable pub from_15 : Profile → Side → Side → Verdict
from_15 profile left right = choose (quotation_rules profile) left right (from_16 left right)

unfoldable pub from_14 : Profile → Side → Side → Verdict
from_14 profile left right = choose opening_rules left right (from_15 profile left right)

unfoldable pub from_11 : Profile → Side → Side → Verdict
from_11 profile left right = choose joining_rules left right (from_14 profile left right)

-- over the cells of both sides, the left read outwards
unfoldable pub from_cells : Profile → Side → List Cell → Verdict
from_cells profile left right = choose cell_rules left right (from_11 profile (units_before left) (units right))
