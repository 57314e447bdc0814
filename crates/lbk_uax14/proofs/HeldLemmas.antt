-- Which positions wait for the unit after a quotation mark.
use Rattle.std.proofs.Common.{◌≡◌, Bool, true, false, cond, ◌||◌, ◌&&◌, not, List, [], ◌∷◌, ◌++◌, map, reverse, refl}
use Rattle.std.proofs.Common.{sym, ap, ◌∙◌}
use Rattle.std.proofs.lemmas.Bool.{and_parts, and_right, false≢true}
use Rattle.lbk_uax14.specs.declared.classes.Class.{Class}
use Rattle.lbk_uax14.specs.declared.classes.Class.TheVariants.{CombiningMark, ZWJ}
use Rattle.lbk_uax14.specs.declared.cells.Cell.{Cell}
use Rattle.lbk_uax14.specs.declared.verdicts.Kind.TheVariants.{No, May}
use Rattle.lbk_values.specs.declared.profile.Profile.{Profile}
use Rattle.lbk_values.specs.declared.profile.Profile.TheVariants.{First, Second}
use Rattle.lbk_uax14.specs.declared.verdicts.Rule.TheVariants.{Lb15, Lb15a, Lb15b, Lb31}
use Rattle.lbk_uax14.specs.declared.verdicts.Verdict.{Verdict}
use Rattle.lbk_uax14.specs.Classes.{is, hard, mark, OP, QU}
use Rattle.lbk_uax14.specs.Sides.{Side, closing, is_final, leaves_closed, opens_quotation, past_spaces}
use Rattle.lbk_uax14.specs.Units.{letter, unit, units, units_after}
use Rattle.lbk_uax14.specs.Facts.{units_before}
use Rattle.lbk_uax14.specs.Held.{is_15b, before_15b, any_matches, is_held}
use Rattle.lbk_uax14.specs.Rules.{Line, Entry, ◌×at◌, over_cells, over_units, rule_list, unit_rules, cell_rules}
use Rattle.lbk_uax14.specs.Rules.{joining_rules, opening_rules, quotation_rules, space_rules, hyphen_rules, affix_rules}
use Rattle.lbk_uax14.specs.Rules.{number_rules, syllable_rules, letter_rules, last_rule}
use Rattle.lbk_uax14.specs.Chain.{choose, from_11, from_14, from_15, from_16, from_19, from_23, from_25, from_26}
use Rattle.lbk_uax14.specs.Chain.{from_28, from_cells}
use Rattle.lbk_uax14.proofs.ChainLemmas.{choose-append, from_11-list}
use Rattle.lbk_uax14.proofs.FactsLemmas.{QU-apart, units_before-reverse}
use Rattle.lbk_uax14.proofs.LookAheadLemmas.{from_16-right, from_cells-right}

-- no line is for rule 15b
abbrev never_15b : List Line → Bool
never_15b [] = true
never_15b (line ∷ lines) = not (is_15b line.answer.rule) && never_15b lines

-- some line holds
abbrev any_holds : List Line → Side → Side → Bool
any_holds [] left right = false
any_holds (line ∷ lines) left right = line.holds left right || any_holds lines left right

both-left : (a b : Bool) → (not a && b) ≡ true → a ≡ false
both-left false b h = refl
both-left true b h = absurd (false≢true h)

both-right : (a b : Bool) → (not a && b) ≡ true → b ≡ true
both-right false b h = h
both-right true b h = absurd (false≢true h)

-- rule 15b decides by way of these lines where none of them holds and it decides after them
is_15b-choose : (lines : List Line) (left right : Side) (otherwise : Verdict) → never_15b lines ≡ true
    → is_15b (choose lines left right otherwise).rule ≡ (not (any_holds lines left right) && is_15b otherwise.rule)
is_15b-choose [] left right otherwise never = refl
is_15b-choose (line ∷ lines) left right otherwise never =
    elim (line.holds left right)
    as (λ v. is_15b (cond v line.answer (choose lines left right otherwise)).rule
    ≡ (not (v || any_holds lines left right) && is_15b otherwise.rule)) [
      | true ↦ both-left (is_15b line.answer.rule) (never_15b lines) never
      | false ↦ is_15b-choose lines left right otherwise (both-right (is_15b line.answer.rule) (never_15b lines) never)
    ]

not_15b-choose : (lines : List Line) (left right : Side) (otherwise : Verdict) → never_15b lines ≡ true
    → is_15b otherwise.rule ≡ false → is_15b (choose lines left right otherwise).rule ≡ false
not_15b-choose lines left right otherwise never here =
    is_15b-choose lines left right otherwise never
    ∙ ap (λ v. not (any_holds lines left right) && v) here
    ∙ and_right (not (any_holds lines left right)) false refl

-- what comes after rule 15b counts only where it decides
choose-settled : (lines : List Line) (left right : Side) (x y : Verdict)
    → (is_15b y.rule ≡ false → x ≡ y) → is_15b (choose lines left right y).rule ≡ false
    → choose lines left right x ≡ choose lines left right y
choose-settled [] left right x y same = same
choose-settled (line ∷ lines) left right x y same =
    elim (line.holds left right)
    as (λ v. is_15b (cond v line.answer (choose lines left right y)).rule ≡ false
    → cond v line.answer (choose lines left right x) ≡ cond v line.answer (choose lines left right y))
    [ true ↦ λ _. refl | false ↦ choose-settled lines left right x y same ]

-- The rules after 15b

from_16-list : (left right : Side)
    → choose (space_rules ++ hyphen_rules ++ affix_rules ++ number_rules ++ syllable_rules ++ letter_rules) left right
    (record { kind = May; rule = Lb31 })
    ≡ from_16 left right
unfolding from_16 from_19 from_23 from_25 from_26 from_28
from_16-list left right = simp choose-append

from_16-not_15b : (left right : Side) → is_15b (from_16 left right).rule ≡ false
unfolding space_rules hyphen_rules affix_rules number_rules syllable_rules letter_rules
from_16-not_15b left right =
    ap (λ v. is_15b v.rule) (sym (from_16-list left right))
    ∙ not_15b-choose (space_rules ++ hyphen_rules ++ affix_rules ++ number_rules ++ syllable_rules ++ letter_rules)
    left right (record { kind = May; rule = Lb31 }) refl refl

-- in the first profile there is none
pub from_cells-first : (left : Side) (right : List Cell) → is_15b (from_cells First left right).rule ≡ false
unfolding from_cells cell_rules unit_rules joining_rules opening_rules quotation_rules space_rules hyphen_rules
    affix_rules number_rules syllable_rules letter_rules last_rule
from_cells-first left right =
    not_15b-choose cell_rules left right (from_11 First (units_before left) (units right)) refl
    (ap (λ v. is_15b v.rule) (sym (from_11-list First (units_before left) (units right)))
    ∙ not_15b-choose (unit_rules First) (units_before left) (units right) (record { kind = May; rule = Lb31 }) refl
    refl)

-- Settled positions

from_15-settled : (left : Side) (right : Cell) (more : Side) → is_15b (from_15 Second left (right ∷ [])).rule ≡ false
    → from_15 Second left (right ∷ more) ≡ from_15 Second left (right ∷ [])
unfolding from_15 quotation_rules
from_15-settled left right more =
    elim (opens_quotation left)
    as (λ v. is_15b (cond v (record { kind = No; rule = Lb15a })
    (cond (closing right && true) (record { kind = No; rule = Lb15b }) (from_16 left (right ∷ [])))).rule ≡ false
    → cond v (record { kind = No; rule = Lb15a })
    (cond (closing right && leaves_closed more) (record { kind = No; rule = Lb15b }) (from_16 left (right ∷ more)))
    ≡ cond v (record { kind = No; rule = Lb15a })
    (cond (closing right && true) (record { kind = No; rule = Lb15b }) (from_16 left (right ∷ [])))) [
      | true ↦ λ _. refl
      | false ↦
          elim (closing right)
          as (λ w. is_15b (cond (w && true) (record { kind = No; rule = Lb15b }) (from_16 left (right ∷ []))).rule
          ≡ false
          → cond (w && leaves_closed more) (record { kind = No; rule = Lb15b }) (from_16 left (right ∷ more))
          ≡ cond (w && true) (record { kind = No; rule = Lb15b }) (from_16 left (right ∷ [])))
          [ true ↦ λ h. absurd (false≢true (sym h)) | false ↦ λ _. from_16-right left right more [] ]
    ]

from_11-settled : (left : Side) (right : Cell) (more : Side) → is_15b (from_11 Second left (right ∷ [])).rule ≡ false
    → from_11 Second left (right ∷ more) ≡ from_11 Second left (right ∷ [])
unfolding from_11 from_14 joining_rules opening_rules
from_11-settled left right more =
    choose-settled joining_rules left (right ∷ []) (from_14 Second left (right ∷ more))
    (from_14 Second left (right ∷ []))
    (choose-settled opening_rules left (right ∷ []) (from_15 Second left (right ∷ more))
    (from_15 Second left (right ∷ []))
    (from_15-settled left right more))

-- where rule 15b does not decide before the last cell, no cell after it counts
pub from_cells-settled : (profile : Profile) (left : Side) (right : Cell) (more : List Cell)
    → is_15b (from_cells profile left (right ∷ [])).rule ≡ false
    → from_cells profile left (right ∷ more) ≡ from_cells profile left (right ∷ [])
unfolding from_cells cell_rules
from_cells-settled First left right more settled = from_cells-right First left right more [] refl
from_cells-settled Second left right more settled =
    choose-settled cell_rules left (right ∷ []) (from_11 Second (units_before left) (units (right ∷ more)))
    (from_11 Second (units_before left) (units (right ∷ [])))
    (from_11-settled (units_before left) (unit right) (units_after (hard right.class) more)) settled

-- Held positions, in words and as the table tells them

pub mark-not_QU : (class : Class) → mark class ≡ true → QU class ≡ false
unfolding is
mark-not_QU CombiningMark _ = refl
mark-not_QU ZWJ _ = refl
mark-not_QU _ h = absurd (false≢true h)

closing-unit : (cell : Cell) → closing (unit cell) ≡ closing cell
unfolding is
closing-unit cell =
    elim (mark cell.class) as (λ v. mark cell.class ≡ v → closing (cond v letter cell) ≡ closing cell)
    [ true ↦ λ h. sym (rw (mark-not_QU cell.class h)) | false ↦ λ _. refl ] refl

-- the lines over units before rule 15b
abbrev early : List Line
early = joining_rules ++ opening_rules ++ (Lb15a ×at (λ left right. opens_quotation left)) ∷ []

any_holds-append : (a b : List Line) (left right : Side)
    → any_holds (a ++ b) left right ≡ (any_holds a left right || any_holds b left right)
any_holds-append [] b left right = refl
any_holds-append (line ∷ a) b left right =
    elim (line.holds left right) as (λ v. (v || any_holds (a ++ b) left right)
    ≡ ((v || any_holds a left right) || any_holds b left right))
    [ true ↦ refl | false ↦ any_holds-append a b left right ]

any_matches-over_cells : (lines : List Line) (entries : List Entry) (left right : List Cell)
    → any_matches (map over_cells lines ++ entries) left right
    ≡ (any_holds lines (reverse left) right || any_matches entries left right)
any_matches-over_cells [] entries left right = refl
any_matches-over_cells (line ∷ lines) entries left right =
    elim (line.holds (reverse left) right)
    as (λ v. (v || any_matches (map over_cells lines ++ entries) left right)
    ≡ ((v || any_holds lines (reverse left) right) || any_matches entries left right))
    [ true ↦ refl | false ↦ any_matches-over_cells lines entries left right ]

any_matches-over_units : (lines : List Line) (left right : List Cell)
    → any_matches (map over_units lines) left right ≡ any_holds lines (reverse (units left)) (units right)
any_matches-over_units [] left right = refl
any_matches-over_units (line ∷ lines) left right =
    ap (λ v. line.holds (reverse (units left)) (units right) || v) (any_matches-over_units lines left right)

before_15b-lines : before_15b (rule_list Second) ≡ map over_cells cell_rules ++ map over_units early
unfolding rule_list unit_rules cell_rules joining_rules opening_rules quotation_rules
before_15b-lines = refl

-- what matches before rule 15b does not hang on the cells after the first
any_matches-first : (left : List Cell) (cell : Cell) (more : List Cell)
    → any_matches (before_15b (rule_list Second)) left (cell ∷ more)
    ≡ (any_holds cell_rules (reverse left) (cell ∷ []) || any_holds early (units_before (reverse left))
    (unit cell ∷ []))
unfolding cell_rules joining_rules opening_rules
any_matches-first left cell more =
    ap (λ e. any_matches e left (cell ∷ more)) before_15b-lines
    ∙ any_matches-over_cells cell_rules (map over_units early) left (cell ∷ more)
    ∙ ap (λ v. any_holds cell_rules (reverse left) (cell ∷ []) || v)
    (any_matches-over_units early left (cell ∷ more)
    ∙ ap (λ u. any_holds early u (unit cell ∷ [])) (sym (units_before-reverse left)))

from_15-held : (left : Side) (right : Cell) → is_15b (from_15 Second left (right ∷ [])).rule
    ≡ (not (opens_quotation left) && closing right)
unfolding from_15 quotation_rules
from_15-held left right =
    elim (opens_quotation left)
    as (λ v. is_15b (cond v (record { kind = No; rule = Lb15a })
    (cond (closing right && true) (record { kind = No; rule = Lb15b }) (from_16 left (right ∷ [])))).rule
    ≡ (not v && closing right)) [
      | true ↦ refl
      | false ↦
          elim (closing right)
          as (λ w. is_15b (cond (w && true) (record { kind = No; rule = Lb15b }) (from_16 left (right ∷ []))).rule ≡ w)
          [ true ↦ refl | false ↦ from_16-not_15b left (right ∷ []) ]
    ]

-- cells, joining, opening and quotation lines, and the closing mark
same_test : (a j o p q : Bool) → (not a && (not j && (not o && (not p && q))))
    ≡ (q && not (a || ((j || o) || (p || false))))
same_test true j o p true = refl
same_test true j o p false = refl
same_test false true o p true = refl
same_test false true o p false = refl
same_test false false true p true = refl
same_test false false true p false = refl
same_test false false false true true = refl
same_test false false false true false = refl
same_test false false false false true = refl
same_test false false false false false = refl

from_cells-held : (left : Side) (cell : Cell)
    → is_15b (from_cells Second left (cell ∷ [])).rule
    ≡ (closing cell && not (any_holds cell_rules left (cell ∷ [])
    || any_holds early (units_before left) (unit cell ∷ [])))
unfolding from_cells from_11 from_14 cell_rules joining_rules opening_rules
from_cells-held left cell =
    let u = units_before left in
    let r = unit cell ∷ [] in
    let q = closing (unit cell) in
    let a = any_holds cell_rules left (cell ∷ []) in
    let j = any_holds joining_rules u r in
    let o = any_holds opening_rules u r in
    let p = opens_quotation u in
    is_15b-choose cell_rules left (cell ∷ []) (from_11 Second u r) refl
    ∙ ap (λ v. not a && v) (is_15b-choose joining_rules u r (from_14 Second u r) refl
    ∙ ap (λ v. not j && v) (is_15b-choose opening_rules u r (from_15 Second u r) refl
    ∙ ap (λ v. not o && v) (from_15-held u (unit cell))))
    ∙ same_test a j o p q
    ∙ ap (λ v. q && not (a || (v || (p || false)))) (sym (any_holds-append joining_rules opening_rules u r))
    ∙ ap (λ v. q && not (a || v)) (sym (any_holds-append (joining_rules ++ opening_rules)
    ((Lb15a ×at (λ left right. opens_quotation left)) ∷ []) u r))
    ∙ ap (λ v. v && not (a || any_holds early u r)) (closing-unit cell)

-- a position is held where the table, asked as if nothing came after the quotation mark, answers rule 15b
pub is_held-chain : (profile : Profile) (left : List Cell) (cell : Cell) (more : List Cell)
    → is_held profile left (cell ∷ more) ≡ is_15b (from_cells profile (reverse left) (cell ∷ [])).rule
unfolding is_held
is_held-chain First left cell more = sym (from_cells-first (reverse left) (cell ∷ []))
is_held-chain Second left cell more =
    ap (λ v. closing cell && not v) (any_matches-first left cell more) ∙ sym (from_cells-held (reverse left) cell)

-- Positions that rule 15b decides

-- only what comes after these lines counts there
choose-held : (lines : List Line) (left right : Side) (w x y : Verdict) → (is_15b y.rule ≡ true → w ≡ x)
    → is_15b (choose lines left right y).rule ≡ true → choose lines left right w ≡ choose lines left right x
choose-held [] left right w x y same = same
choose-held (line ∷ lines) left right w x y same =
    elim (line.holds left right)
    as (λ v. is_15b (cond v line.answer (choose lines left right y)).rule ≡ true
    → cond v line.answer (choose lines left right w) ≡ cond v line.answer (choose lines left right x))
    [ true ↦ λ _. refl | false ↦ choose-held lines left right w x y same ]

choose-15b : (lines : List Line) (left right : Side) (y z : Verdict) → never_15b lines ≡ true
    → (is_15b y.rule ≡ true → y ≡ z)
    → is_15b (choose lines left right y).rule ≡ true → choose lines left right y ≡ z
choose-15b [] left right y z never same = same
choose-15b (line ∷ lines) left right y z never same =
    elim (line.holds left right)
    as (λ v. is_15b (cond v line.answer (choose lines left right y)).rule ≡ true
    → cond v line.answer (choose lines left right y) ≡ z) [
      | true ↦ λ h. absurd (false≢true (sym (both-left (is_15b line.answer.rule) (never_15b lines) never) ∙ h))
      | false ↦ choose-15b lines left right y z (both-right (is_15b line.answer.rule) (never_15b lines) never) same
    ]

from_15-open : (left : Side) (right : Cell) (more : Side) → leaves_closed more ≡ false
    → is_15b (from_15 Second left (right ∷ [])).rule ≡ true
    → from_15 First left (right ∷ more) ≡ from_15 Second left (right ∷ more)
unfolding from_15 quotation_rules is
from_15-open left right more opens held =
    let test = sym (from_15-held left right) ∙ held in
    let unopened = both-left (opens_quotation left) (closing right) test in
    let closes = both-right (opens_quotation left) (closing right) test in
    let rest = from_16 left (right ∷ more) in
    let not_op = QU-apart OP refl right.class (and_parts (QU right.class) (is_final right.quote) closes).0 in
    ap (λ v. cond (past_spaces QU left && v) (record { kind = No; rule = Lb15 }) rest) not_op
    ∙ ap (λ v. cond v (record { kind = No; rule = Lb15 }) rest) (and_right (past_spaces QU left) false refl)
    ∙ sym (ap (λ v. cond v (record { kind = No; rule = Lb15a })
    (cond (closing right && leaves_closed more) (record { kind = No; rule = Lb15b }) rest)) unopened
    ∙ ap (λ v. cond (closing right && v) (record { kind = No; rule = Lb15b }) rest) opens
    ∙ ap (λ v. cond v (record { kind = No; rule = Lb15b }) rest) (and_right (closing right) false refl))

from_11-open : (left : Side) (right : Cell) (more : Side) → leaves_closed more ≡ false
    → is_15b (from_11 Second left (right ∷ [])).rule ≡ true
    → from_11 First left (right ∷ more) ≡ from_11 Second left (right ∷ more)
unfolding from_11 joining_rules from_14 opening_rules
from_11-open left right more opens =
    choose-held joining_rules left (right ∷ []) (from_14 First left (right ∷ more)) (from_14 Second left (right ∷ more))
    (from_14 Second left (right ∷ []))
    (choose-held opening_rules left (right ∷ []) (from_15 First left (right ∷ more))
    (from_15 Second left (right ∷ more)) (from_15 Second left (right ∷ []))
    (from_15-open left right more opens))

-- where the unit after it leaves the quotation open, both profiles decide it alike
pub from_cells-open : (left : Side) (right : Cell) (more : List Cell)
    → leaves_closed (units_after (hard right.class) more) ≡ false
    → is_15b (from_cells Second left (right ∷ [])).rule ≡ true
    → from_cells First left (right ∷ more) ≡ from_cells Second left (right ∷ more)
unfolding from_cells cell_rules
from_cells-open left right more opens =
    choose-held cell_rules left (right ∷ []) (from_11 First (units_before left) (units (right ∷ more)))
    (from_11 Second (units_before left) (units (right ∷ more)))
    (from_11 Second (units_before left) (units (right ∷ [])))
    (from_11-open (units_before left) (unit right) (units_after (hard right.class) more) opens)

from_15-15b : (left : Side) (right : Cell) → is_15b (from_15 Second left (right ∷ [])).rule ≡ true
    → from_15 Second left (right ∷ []) ≡ record { kind = No; rule = Lb15b }
unfolding from_15 quotation_rules
from_15-15b left right held =
    let test = sym (from_15-held left right) ∙ held in
    let unopened = both-left (opens_quotation left) (closing right) test in
    let closes = both-right (opens_quotation left) (closing right) test in
    let rest = from_16 left (right ∷ []) in
    ap (λ v. cond v (record { kind = No; rule = Lb15a })
    (cond (closing right && true) (record { kind = No; rule = Lb15b }) rest)) unopened
    ∙ ap (λ v. cond (v && true) (record { kind = No; rule = Lb15b }) rest) closes

-- rule 15b forbids a break
pub from_cells-15b : (left : Side) (right : Cell) → is_15b (from_cells Second left (right ∷ [])).rule ≡ true
    → from_cells Second left (right ∷ []) ≡ record { kind = No; rule = Lb15b }
unfolding from_cells from_11 from_14 cell_rules joining_rules opening_rules
from_cells-15b left right =
    let u = units_before left in
    let r = unit right ∷ [] in
    let no_break : Verdict = record { kind = No; rule = Lb15b } in
    choose-15b cell_rules left (right ∷ []) (from_11 Second u r) no_break refl
    (choose-15b joining_rules u r (from_14 Second u r) no_break refl
    (choose-15b opening_rules u r (from_15 Second u r) no_break refl
    (from_15-15b u (unit right))))
