-- The rule list, read group by group.
use Rattle.std.proofs.Common.{◌≡◌, cond, List, [], ◌∷◌, ◌++◌, map, reverse, refl, sym, ◌∙◌, ap}
use Rattle.lbk_uax14.specs.declared.cells.Cell.{Cell}
use Rattle.lbk_values.specs.declared.profile.Profile.{Profile}
use Rattle.lbk_uax14.specs.declared.verdicts.Verdict.{Verdict}
use Rattle.lbk_uax14.specs.declared.verdicts.Kind.TheVariants.{May}
use Rattle.lbk_uax14.specs.declared.verdicts.Rule.TheVariants.{Lb31}
use Rattle.lbk_uax14.specs.Sides.{Side}
use Rattle.lbk_uax14.specs.Units.{units}
use Rattle.lbk_uax14.specs.Rules.{Line, Entry, over_cells, over_units, first_match, rule_list, unit_rules, cell_rules}
use Rattle.lbk_uax14.specs.Rules.{last_rule}
use Rattle.lbk_uax14.specs.Chain.{choose, from_11, from_14, from_15, from_16, from_19, from_23, from_25, from_26}
use Rattle.lbk_uax14.specs.Chain.{from_28, from_cells}
use Rattle.lbk_uax14.specs.Verdict.{verdict_between_in}
use Rattle.lbk_uax14.proofs.FactsLemmas.{units_before-reverse}

pub choose-append : (a b : List Line) (left right : Side) (otherwise : Verdict)
    → choose (a ++ b) left right otherwise ≡ choose a left right (choose b left right otherwise)
choose-append [] b left right otherwise = refl
choose-append (line ∷ a) b left right otherwise =
    ap (λ v. cond (line.holds left right) line.answer v) (choose-append a b left right otherwise)

first_match-over_cells : (lines : List Line) (entries : List Entry) (left right : List Cell)
    → first_match (map over_cells lines ++ entries) left right
    ≡ choose lines (reverse left) right (first_match entries left right)
first_match-over_cells [] entries left right = refl
first_match-over_cells (line ∷ lines) entries left right =
    ap (λ v. cond (line.holds (reverse left) right) line.answer v) (first_match-over_cells lines entries left right)

first_match-over_units : (lines : List Line) (left right : List Cell)
    → first_match (map over_units lines) left right
    ≡ choose lines (reverse (units left)) (units right) (record { kind = May; rule = Lb31 })
first_match-over_units [] left right = refl
first_match-over_units (line ∷ lines) left right =
    ap (λ v. cond (line.holds (reverse (units left)) (units right)) line.answer v)
    (first_match-over_units lines left right)

-- the unit rules, group by group
pub from_11-list : (profile : Profile) (left right : Side)
    → choose (unit_rules profile) left right (record { kind = May; rule = Lb31 }) ≡ from_11 profile left right
unfolding unit_rules last_rule from_11 from_14 from_15 from_16 from_19 from_23 from_25 from_26 from_28
from_11-list profile left right = simp choose-append

pub verdict_between-chain : (profile : Profile) (left right : List Cell)
    → verdict_between_in profile left right ≡ from_cells profile (reverse left) right
unfolding verdict_between_in from_cells rule_list
verdict_between-chain profile left right =
    first_match-over_cells cell_rules (map over_units (unit_rules profile)) left right
    ∙ ap (λ v. choose cell_rules (reverse left) right v)
    (first_match-over_units (unit_rules profile) left right
    ∙ from_11-list profile (reverse (units left)) (units right)
    ∙ ap (λ u. from_11 profile u (units right)) (sym (units_before-reverse left)))
