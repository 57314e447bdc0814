-- Of the cells on the left nothing counts but what the rules ask of them.
use Rattle.std.proofs.Common.{◌≡◌, true, false, cond, ◌||◌, ◌&&◌, not, List, [], ◌∷◌, refl, sym, ap, ◌∙◌}
use Rattle.std.proofs.lemmas.Bool.{true≢false}
use Rattle.lbk_uax14.specs.declared.cells.Cell.{Cell}
use Rattle.lbk_uax14.specs.declared.classes.Class.{Class}
use Rattle.lbk_uax14.specs.declared.facts.Before.{Before}
use Rattle.lbk_uax14.specs.declared.verdicts.Verdict.{Verdict}
use Rattle.lbk_values.specs.declared.profile.Profile.{Profile}
use Rattle.lbk_values.specs.declared.profile.Profile.TheVariants.{First, Second}
use Rattle.lbk_uax14.specs.Asked.{asked_before_spaces, asked_of_cell, asked_of_unit}
use Rattle.lbk_uax14.specs.Chain.{choose, from_11, from_14, from_15, from_16, from_19, from_23, from_25, from_26, from_28, from_cells}
use Rattle.lbk_uax14.specs.Classes.{◌or◌, BA, HL, HY, RI, SP, ZW, hard, mark, none_of, opens_after}
use Rattle.lbk_uax14.specs.Facts.{Sees, class_cell, facts, facts_of_units, units_before}
use Rattle.lbk_uax14.specs.Rules.{cell_rules, joining_rules, opening_rules, quotation_rules, space_rules, hyphen_rules, affix_rules, number_rules, syllable_rules, letter_rules}
use Rattle.lbk_uax14.specs.Sides.{Side, before_spaces, opening, past_spaces}
use Rattle.lbk_uax14.specs.Units.{heads, nearest, unit, units}
use Rattle.lbk_uax14.proofs.AskedLemmas.{cells-asked, from_11-asked, hard-asked, zero_width-asked}
use Rattle.lbk_uax14.proofs.FactsLemmas.{Sees-facts, facts-then}

unit-alike : (u : Cell) (a b : Side) → facts_of_units a ≡ facts_of_units b → facts_of_units (u ∷ a) ≡ facts_of_units (u ∷ b)
unit-alike u a b same =
    let before = facts_of_units b in
    let spaces = cond (SP u.class) before.before_spaces (asked_before_spaces u.class) in
    let hebrew = (HY or BA) u.class && HL before.last.class in
    let indicators = RI u.class && not before.odd_indicators in
    let quotation = cond (SP u.class) before.opens_quotation (opening u && opens_after before.last.class) in
    sym (facts-then u a before (asked_of_unit u) spaces hebrew indicators quotation same refl refl refl refl refl)
    ∙ facts-then u b before (asked_of_unit u) spaces hebrew indicators quotation refl refl refl refl refl refl

heads-alike : (cell : Cell) (a b : Side) → facts a ≡ facts b → heads a cell ≡ heads b cell
unfolding facts
heads-alike cell a b same =
    ap (λ v. v || none_of mark cell.class)
    (sym (hard-asked (nearest a).class) ∙ ap (λ l. hard l.last) same ∙ hard-asked (nearest b).class)

-- one cell more
pub facts-alike : (cell : Cell) (a b : Side) → facts a ≡ facts b → facts (cell ∷ a) ≡ facts (cell ∷ b)
unfolding facts before_spaces
facts-alike cell a b same =
    let zero_width =
    elim (SP cell.class) as (λ v. ZW (cond v (before_spaces a) cell.class) ≡ ZW (cond v (before_spaces b) cell.class))
    [ true ↦ ap (λ l. l.past_zero_width) same | false ↦ refl ] in
    let known : facts_of_units (units_before a) ≡ facts_of_units (units_before b) = ap (λ l. l.units) same in
    let more =
    ap (λ v. facts_of_units (cond v (unit cell ∷ units_before a) (units_before a))) (heads-alike cell a b same)
    ∙ (elim (heads b cell)
    as (λ v. facts_of_units (cond v (unit cell ∷ units_before a) (units_before a)) ≡ facts_of_units (cond v (unit cell ∷ units_before b) (units_before b)))
    [ true ↦ unit-alike (unit cell) (units_before a) (units_before b) known | false ↦ known ]) in
    λ i. record { empty = false; last = asked_of_cell cell.class; past_zero_width = zero_width i; units = more i }

-- the rules over units ask of the left side its last unit, and seven facts
units-alike : (profile : Profile) (before : Before) (a b right : Side) → Sees before a → Sees before b
    → from_11 profile (before.last ∷ a) right ≡ from_11 profile (before.last ∷ b) right
unfolding from_11 from_14 from_15 from_16 from_19 from_23 from_25 from_26 from_28 joining_rules opening_rules quotation_rules space_rules hyphen_rules affix_rules number_rules syllable_rules letter_rules
units-alike First before a b right one other =
    rw (one.opening, one.quoting, one.closing, one.dashes, one.hebrew, one.indicators, other.opening, other.quoting, other.closing, other.dashes, other.hebrew, other.indicators) refl
units-alike Second before a b right one other =
    rw (one.opening, one.closing, one.dashes, one.hebrew, one.indicators, one.quotation, other.opening, other.closing, other.dashes, other.hebrew, other.indicators, other.quotation) refl

from_11-alike : (profile : Profile) (x y : Cell) (a b right : Side) → facts (x ∷ a) ≡ facts (y ∷ b)
    → from_11 profile (units_before (x ∷ a)) right ≡ from_11 profile (units_before (y ∷ b)) right
from_11-alike profile x y a b right same =
    let left = facts (y ∷ b) in
    let one = Sees-facts x a left same in
    let other = Sees-facts y b left refl in
    ap (λ u. from_11 profile u right) one.2
    ∙ sym (from_11-asked profile one.0 one.1 right)
    ∙ ap (λ u. from_11 profile (u ∷ one.1) right) one.3
    ∙ units-alike profile left.units one.1 other.1 right one.4 other.4
    ∙ ap (λ u. from_11 profile (u ∷ other.1) right) (sym other.3)
    ∙ from_11-asked profile other.0 other.1 right
    ∙ ap (λ u. from_11 profile u right) (sym other.2)

cells-by-class : (last : Class) (a b : Side) (right : Side) (v : Verdict) → past_spaces ZW (class_cell last ∷ a) ≡ past_spaces ZW (class_cell last ∷ b)
    → choose cell_rules (class_cell last ∷ a) right v ≡ choose cell_rules (class_cell last ∷ b) right v
unfolding cell_rules
cells-by-class last a b right v same = rw same refl

cells-alike : (x y : Cell) (a b right : Side) (v : Verdict) → facts (x ∷ a) ≡ facts (y ∷ b)
    → choose cell_rules (x ∷ a) right v ≡ choose cell_rules (y ∷ b) right v
unfolding facts
cells-alike x y a b right v same =
    let last : asked_of_cell x.class ≡ asked_of_cell y.class = ap (λ l. l.last) same in
    sym (cells-asked x a right v)
    ∙ ap (λ l. choose cell_rules (class_cell l ∷ x ∷ a) right v) last
    ∙ cells-by-class (asked_of_cell y.class) (x ∷ a) (y ∷ b) right v
    (ap (λ l. past_spaces ZW (class_cell l ∷ x ∷ a)) (sym last) ∙ zero_width-asked x a ∙ ap (λ l. l.past_zero_width) same ∙ sym (zero_width-asked y b))
    ∙ cells-asked y b right v

-- the verdict
pub from_cells-alike : (profile : Profile) (a b : Side) (right : List Cell) → facts a ≡ facts b → from_cells profile a right ≡ from_cells profile b right
unfolding facts from_cells
from_cells-alike profile [] [] right same = refl
from_cells-alike profile [] (y ∷ b) right same = absurd (true≢false (ap (λ l. l.empty) same))
from_cells-alike profile (x ∷ a) [] right same = absurd (true≢false (sym (ap (λ l. l.empty) same)))
from_cells-alike profile (x ∷ a) (y ∷ b) right same =
    cells-alike x y a b right (from_11 profile (units_before (x ∷ a)) (units right)) same
    ∙ ap (choose cell_rules (y ∷ b) right) (from_11-alike profile x y a b (units right) same)
