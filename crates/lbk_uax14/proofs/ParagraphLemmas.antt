-- What lies behind the end of a line decides nothing any more.
use Rattle.std.proofs.Common.{◌≡◌, ℕ, ◌+◌, ◌-◌, ◌<◌, length, take, drop, get_or, suc, Bool, true, false, cond, ◌||◌}
use Rattle.std.proofs.Common.{◌&&◌, not, List, [], ◌∷◌, ◌++◌, reverse, refl, sym, ap, ◌∙◌, arith}
use Rattle.std.proofs.Common.{rules}
use Rattle.std.proofs.lemmas.Bool.{and_parts, false≢true, or_right}
use Rattle.std.proofs.lemmas.List.{reverse-append, take-append-drop, take-take, drop-take, drop-drop, drop_more}
use Rattle.lbk_uax14.specs.declared.classes.Class.{Class}
use Rattle.lbk_uax14.specs.declared.classes.Class.TheVariants.{MandatoryBreak, CarriageReturn, LineFeed, NextLine}
use Rattle.lbk_uax14.specs.declared.classes.Class.TheVariants.{Space}
use Rattle.lbk_uax14.specs.declared.cells.Cell.{Cell}
use Rattle.lbk_uax14.specs.declared.verdicts.Kind.{Kind}
use Rattle.lbk_uax14.specs.declared.verdicts.Kind.TheVariants.{No, May, Must}
use Rattle.lbk_uax14.specs.declared.verdicts.Rule.TheVariants.{Lb31}
use Rattle.lbk_values.specs.declared.profile.Profile.{Profile}
use Rattle.lbk_values.specs.declared.profile.Profile.TheVariants.{First, Second}
use Rattle.lbk_uax14.specs.declared.verdicts.Verdict.{Verdict}
use Rattle.lbk_uax14.specs.Classes.{Set, ◌or◌, none_of, is, hard, mark, opens_after, BK, CR, LF, NL, SP, ZW, OP, QU, CL}
use Rattle.lbk_uax14.specs.Classes.{CP, B2, HL, RI}
use Rattle.lbk_uax14.specs.Ends.{ends_line}
use Rattle.lbk_uax14.specs.Sides.{Side, at, before_spaces, past_spaces, at_odd_run, opens_quotation, opening}
use Rattle.lbk_uax14.specs.Sides.{leaves_open}
use Rattle.lbk_uax14.specs.Units.{unit, units, nearest, space}
use Rattle.lbk_uax14.specs.Facts.{units_before}
use Rattle.lbk_uax14.specs.Rules.{Line, unit_rules, cell_rules, joining_rules, opening_rules, quotation_rules}
use Rattle.lbk_uax14.specs.Rules.{space_rules, hyphen_rules, affix_rules, number_rules, syllable_rules, letter_rules}
use Rattle.lbk_uax14.specs.Rules.{last_rule}
use Rattle.lbk_uax14.specs.Chain.{choose, from_11, from_14, from_15, from_16, from_19, from_23, from_25, from_26}
use Rattle.lbk_uax14.specs.Chain.{from_28, from_cells}
use Rattle.lbk_uax14.specs.Verdict.{verdict_between_in, verdict_in}
use Rattle.lbk_uax14.proofs.ChainLemmas.{verdict_between-chain, from_11-list}
use Rattle.lbk_uax14.proofs.FactsLemmas.{units_before-begins}

-- what such a class is not, and is
pub record IsEnd (class : Class) : Type 0 where
  pub hard_yes : hard class ≡ true
  pub mark_no : mark class ≡ false
  pub space_no : SP class ≡ false
  pub zero_width_no : ZW class ≡ false
  pub opening_no : OP class ≡ false
  pub quotation_no : QU class ≡ false
  pub closing_no : (CL or CP) class ≡ false
  pub dash_no : B2 class ≡ false
  pub hebrew_no : HL class ≡ false
  pub indicator_no : RI class ≡ false
  pub opens_after_yes : opens_after class ≡ true

pub IsEnd-ends : (class : Class) → ends_line class ≡ true → IsEnd class
unfolding is
IsEnd-ends MandatoryBreak _ = search rules
IsEnd-ends CarriageReturn _ = search rules
IsEnd-ends LineFeed _ = search rules
IsEnd-ends NextLine _ = search rules
IsEnd-ends _ h = absurd (false≢true h)

-- Two lists of units that begin alike, and answer alike to all that the rules ask of the left
pub record Alike (last : Cell) (a b : Side) : Type 0 where
  pub after_opening : past_spaces OP (last ∷ a) ≡ past_spaces OP (last ∷ b)
  pub after_quotation : past_spaces QU (last ∷ a) ≡ past_spaces QU (last ∷ b)
  pub after_closing : past_spaces (CL or CP) (last ∷ a) ≡ past_spaces (CL or CP) (last ∷ b)
  pub after_dash : past_spaces B2 (last ∷ a) ≡ past_spaces B2 (last ∷ b)
  pub hebrew : at HL a ≡ at HL b
  pub indicators : at_odd_run (last ∷ a) ≡ at_odd_run (last ∷ b)
  pub quotation : opens_quotation (last ∷ a) ≡ opens_quotation (last ∷ b)

from_16-alike : (last : Cell) (a b : Side) (right : Side) → Alike last a b
    → from_16 (last ∷ a) right ≡ from_16 (last ∷ b) right
unfolding from_16 from_19 from_23 from_25 from_26 from_28 space_rules hyphen_rules affix_rules number_rules
    syllable_rules letter_rules
from_16-alike last a b right alike = rw (alike.after_closing, alike.after_dash, alike.hebrew, alike.indicators)

from_15-alike : (profile : Profile) (last : Cell) (a b : Side) (right : Side) → Alike last a b
    → from_15 profile (last ∷ a) right ≡ from_15 profile (last ∷ b) right
unfolding from_15 quotation_rules
from_15-alike First last a b right alike =
    ap (λ v. choose (quotation_rules First) (last ∷ a) right v) (from_16-alike last a b right alike)
    ∙ rw alike.after_quotation
from_15-alike Second last a b right alike =
    ap (λ v. choose (quotation_rules Second) (last ∷ a) right v) (from_16-alike last a b right alike)
    ∙ rw alike.quotation

from_11-alike : (profile : Profile) (last : Cell) (a b : Side) (right : Side) → Alike last a b
    → from_11 profile (last ∷ a) right ≡ from_11 profile (last ∷ b) right
unfolding from_11 from_14 joining_rules opening_rules
from_11-alike profile last a b right alike =
    ap (λ v. choose joining_rules (last ∷ a) right (choose opening_rules (last ∷ a) right v))
    (from_15-alike profile last a b right alike)
    ∙ rw alike.after_opening

-- Behind the end of a line

-- a set that holds neither spaces nor this class sees nothing there
past_spaces-end : (set : Set) (side : Side) (end : Cell) (far : Side) → SP end.class ≡ false
    → set Space ≡ false → set end.class ≡ false
    → past_spaces set (side ++ end ∷ far) ≡ past_spaces set side
unfolding before_spaces
past_spaces-end set [] end far space none here = rw space (here ∙ sym none)
past_spaces-end set (cell ∷ side) end far space none here =
    elim (SP cell.class)
    as (λ v. set (cond v (before_spaces (side ++ end ∷ far)) cell.class) ≡ set (cond v (before_spaces side) cell.class))
    [ true ↦ past_spaces-end set side end far space none here | false ↦ refl ]

at-end : (set : Set) (side : Side) (end : Cell) (far : Side) → set end.class ≡ false
    → at set (side ++ end ∷ far) ≡ at set side
at-end set [] end far here = here
at-end set (_ ∷ _) end far here = refl

at_odd_run-end : (side : Side) (end : Cell) (far : Side) → RI end.class ≡ false
    → at_odd_run (side ++ end ∷ far) ≡ at_odd_run side
unfolding at_odd_run
at_odd_run-end [] end far here = rw here
at_odd_run-end (cell ∷ side) end far here =
    ap (λ v. RI cell.class && not v) (at_odd_run-end side end far here)

leaves_open-end : (side : Side) (end : Cell) (far : Side) → opens_after end.class ≡ true
    → leaves_open (side ++ end ∷ far) ≡ leaves_open side
leaves_open-end [] end far here = here
leaves_open-end (_ ∷ _) end far here = refl

opens_quotation-end : (side : Side) (end : Cell) (far : Side) → IsEnd end.class
    → opens_quotation (side ++ end ∷ far) ≡ opens_quotation side
unfolding opens_quotation
opens_quotation-end [] end far here = rw (here.space_no, here.quotation_no)
opens_quotation-end (cell ∷ side) end far here =
    elim (SP cell.class)
    as (λ v. cond v (opens_quotation (side ++ end ∷ far)) (opening cell && leaves_open (side ++ end ∷ far))
    ≡ cond v (opens_quotation side) (opening cell && leaves_open side)) [
      | true ↦ opens_quotation-end side end far here
      | false ↦ ap (λ v. opening cell && v) (leaves_open-end side end far here.opens_after_yes)
    ]

Alike-end : (last : Cell) (side : Side) (end : Cell) (far : Side) → IsEnd end.class
    → Alike last (side ++ end ∷ far) side
unfolding is
Alike-end last side end far here = record {
  after_opening = past_spaces-end OP (last ∷ side) end far here.space_no refl here.opening_no;
  after_quotation = past_spaces-end QU (last ∷ side) end far here.space_no refl here.quotation_no;
  after_closing = past_spaces-end (CL or CP) (last ∷ side) end far here.space_no refl here.closing_no;
  after_dash = past_spaces-end B2 (last ∷ side) end far here.space_no refl here.dash_no;
  hebrew = at-end HL side end far here.hebrew_no;
  indicators = at_odd_run-end (last ∷ side) end far here.indicator_no;
  quotation = opens_quotation-end (last ∷ side) end far here;
}

-- the units after the end of a line are those of what comes after it alone
hard-end : (side : Side) (end : Cell) (far : Side) → hard end.class ≡ true
    → hard (nearest (side ++ end ∷ far)).class ≡ hard (nearest side).class
unfolding is
hard-end [] end far here = here
hard-end (_ ∷ _) end far here = refl

pub or-true : (b : Bool) → (b || true) ≡ true
or-true b = or_right b true refl

units_before-end : (side : Side) (end : Cell) (far : Side) → IsEnd end.class
    → units_before (side ++ end ∷ far) ≡ units_before side ++ end ∷ units_before far
units_before-end [] end far here =
    rw here.mark_no (ap (λ v. cond v (end ∷ units_before far) (units_before far)) (or-true (hard (nearest far).class)))
units_before-end (cell ∷ side) end far here =
    let rest = units_before-end side end far here in
    ap (λ v. cond (v || none_of mark cell.class) (unit cell ∷ units_before (side ++ end ∷ far))
    (units_before (side ++ end ∷ far)))
    (hard-end side end far here.hard_yes)
    ∙ (elim (hard (nearest side).class || none_of mark cell.class)
    as (λ v. cond v (unit cell ∷ units_before (side ++ end ∷ far)) (units_before (side ++ end ∷ far))
    ≡ cond v (unit cell ∷ units_before side) (units_before side) ++ end ∷ units_before far)
    [ true ↦ ap (λ u. unit cell ∷ u) rest | false ↦ rest ])

-- so the rules see no further back than the start of the line
from_11-end : (profile : Profile) (cell : Cell) (side : Side) (end : Cell) (far right : Side) → IsEnd end.class
    → from_11 profile (units_before ((cell ∷ side) ++ end ∷ far)) right ≡ from_11 profile (units_before (cell ∷ side))
    right
from_11-end profile cell side end far right here =
    let begins = units_before-begins cell side in
    let last = nearest (units_before (cell ∷ side)) in
    ap (λ u. from_11 profile u right)
    (units_before-end (cell ∷ side) end far here ∙ ap (λ u. u ++ end ∷ units_before far) begins.1)
    ∙ from_11-alike profile last (begins.0 ++ end ∷ units_before far) begins.0 right
    (Alike-end last begins.0 end (units_before far) here)
    ∙ ap (λ u. from_11 profile u right) (sym begins.1)

from_cells-end : (profile : Profile) (cell : Cell) (side : Side) (end : Cell) (far : Side) (right : List Cell)
    → IsEnd end.class
    → from_cells profile ((cell ∷ side) ++ end ∷ far) right ≡ from_cells profile (cell ∷ side) right
unfolding from_cells cell_rules is
from_cells-end profile cell side end far right here =
    ap (λ v. choose cell_rules ((cell ∷ side) ++ end ∷ far) right v)
    (from_11-end profile cell side end far (units right) here)
    ∙ rw (past_spaces-end ZW (cell ∷ side) end far here.space_no refl here.zero_width_no)

-- Where a line must end though text follows

abbrev pub is_must : Kind → Bool
is_must No = false
is_must May = false
is_must Must = true

-- no line that holds here answers Must
abbrev pub never_must : List Line → Side → Side → Bool
never_must [] left right = true
never_must (line ∷ lines) left right =
    (not (is_must line.answer.kind) || not (line.holds left right)) && never_must lines left right

-- a line that holds and never answers Must where it holds
held-never_must : (must holds : Bool) → (not must || not holds) ≡ true → holds ≡ true → must ≡ false
held-never_must false holds h here = refl
held-never_must true true h here = sym h
held-never_must true false h here = sym here

pub choose-never_must : (lines : List Line) (left right : Side) (otherwise : Verdict)
    → never_must lines left right ≡ true → is_must otherwise.kind ≡ false
    → is_must (choose lines left right otherwise).kind ≡ false
choose-never_must [] left right otherwise none here = here
choose-never_must (line ∷ lines) left right otherwise none here =
    let parts = and_parts _ (never_must lines left right) none in
    let rest = choose-never_must lines left right otherwise parts.1 here in
    elim (line.holds left right)
    as (λ v. (not (is_must line.answer.kind) || not v) ≡ true
    → is_must (cond v line.answer (choose lines left right otherwise)).kind ≡ false)
    [ true ↦ λ h. held-never_must (is_must line.answer.kind) true h refl | false ↦ λ _. rest ]
    parts.0

units-never_must : (profile : Profile) (left right : Side) → never_must (unit_rules profile) left right ≡ true
unfolding unit_rules joining_rules opening_rules quotation_rules space_rules hyphen_rules affix_rules number_rules
    syllable_rules letter_rules last_rule
units-never_must First left right = refl
units-never_must Second left right = refl

pub from_11-never_must : (profile : Profile) (left right : Side) → is_must (from_11 profile left right).kind ≡ false
from_11-never_must profile left right =
    ap (λ v. is_must v.kind) (sym (from_11-list profile left right))
    ∙ choose-never_must (unit_rules profile) left right (record { kind = May; rule = Lb31 })
    (units-never_must profile left right) refl

none-of-four : (a b c d : Bool) → (((a || b) || c) || d) ≡ false → (a ≡ false) × (((b || c) || d) ≡ false)
none-of-four true b c d h = (h, absurd (false≢true (sym h)))
none-of-four false b c d h = (refl, h)

pub cells-never_must : (end : Cell) (far : Side) (cell : Cell) (more : List Cell) → ends_line end.class ≡ false
    → never_must cell_rules (end ∷ far) (cell ∷ more) ≡ true
unfolding cell_rules
cells-never_must end far cell more here =
    let none = none-of-four (BK end.class) (CR end.class) (LF end.class) (NL end.class) here in
    rw (none.0, none.1)

pub true-unless : (b : Bool) → (b ≡ false → ⊥) → b ≡ true
true-unless true h = refl
true-unless false h = absurd (h refl)

-- a line must end before more text only after a class that ends it
pub Must-ends : (profile : Profile) (side : Side) (cell : Cell) (more : List Cell)
    → (from_cells profile side (cell ∷ more)).kind ≡ Must
    → (end : Cell) × (far : Side) × (side ≡ end ∷ far) × IsEnd end.class
unfolding from_cells cell_rules
Must-ends profile [] cell more must = absurd (false≢true (ap is_must must))
Must-ends profile (end ∷ far) cell more must =
    let none = λ (here : ends_line end.class ≡ false).
    false≢true (sym (choose-never_must cell_rules (end ∷ far) (cell ∷ more)
    (from_11 profile (units_before (end ∷ far)) (units (cell ∷ more)))
    (cells-never_must end far cell more here) (from_11-never_must profile _ _)) ∙ ap is_must must) in
    (end, far, refl, IsEnd-ends end.class (true-unless (ends_line end.class) none))

-- a list that is not empty, read outwards
pub reverse-begins : (cell : Cell) (cells : List Cell) → (last : Cell) × (side : Side)
    × (reverse (cell ∷ cells) ≡ last ∷ side)
reverse-begins cell cells =
    let e = reverse-append (cell ∷ []) cells in
    elim (reverse cells) as (λ v. reverse (cell ∷ cells) ≡ v ++ cell ∷ [] → (last : Cell) × (side : Side)
    × (reverse (cell ∷ cells) ≡ last ∷ side))
    [ [] ↦ λ e. (cell, [], e) | last ∷ side ↦ λ e. (last, side ++ cell ∷ [], e) ] e

-- The paragraph law, between lists: after a Must before the text `a ++ b`, with some of it on the left
pub paragraph_between : (profile : Profile) (left : List Cell) (cell : Cell) (a b : List Cell)
    → (verdict_between_in profile left ((cell ∷ a) ++ b)).kind ≡ Must
    → verdict_between_in profile (left ++ cell ∷ a) b ≡ verdict_between_in profile (cell ∷ a) b
paragraph_between profile left cell a b must =
    let seen = Must-ends profile (reverse left) cell (a ++ b)
    (ap (λ v. v.kind) (sym (verdict_between-chain profile left ((cell ∷ a) ++ b))) ∙ must) in
    let begins = reverse-begins cell a in
    let before : reverse (left ++ cell ∷ a) ≡ (begins.0 ∷ begins.1) ++ seen.0 ∷ seen.1 =
    reverse-append left (cell ∷ a) ∙ ap (λ v. v ++ reverse left) begins.2
    ∙ ap (λ v. (begins.0 ∷ begins.1) ++ v) seen.2 in
    verdict_between-chain profile (left ++ cell ∷ a) b
    ∙ ap (λ v. from_cells profile v b) before
    ∙ from_cells-end profile begins.0 begins.1 seen.0 seen.1 b seen.3
    ∙ ap (λ v. from_cells profile v b) (sym begins.2)
    ∙ sym (verdict_between-chain profile (cell ∷ a) b)

take-add : (p d : ℕ) (cells : List Cell) → take (p + d) cells ≡ take p cells ++ take d (drop p cells)
take-add p d cells =
    sym (take-append-drop p (take (p + d) cells))
    ∙ ap (λ l. l ++ drop p (take (p + d) cells)) (take-take p (p + d) cells (omega arith))
    ∙ ap (λ r. take p cells ++ r) (drop-take p d cells)

by-arith : (k p : ℕ) → p < k → k ≡ p + (k - p)
by-arith k p later = omega arith

by-positive : (k p : ℕ) → p < k → 0 < k - p
by-positive k p later = omega arith

one-more : (d : ℕ) → 0 < d → d ≡ suc (d - 1)
one-more d positive = omega arith

-- The paragraph law, by positions
pub paragraph_at : (profile : Profile) (cells : List Cell) (p k : ℕ) → p < length cells → p < k
    → (verdict_in profile cells p).kind ≡ Must
    → verdict_in profile cells k ≡ verdict_in profile (drop p cells) (k - p)
paragraph_at profile cells p k within later must =
    let d = k - p in
    let text = drop p cells in
    let cell = get_or cells p space in
    let a = take (d - 1) (drop (p + 1) cells) in
    let b = drop d text in
    let begins : text ≡ cell ∷ drop (p + 1) cells = drop_more cells p space within in
    let line : take d text ≡ cell ∷ a =
    ap (λ t. take d t) begins ∙ ap (λ n. take n (cell ∷ drop (p + 1) cells)) (one-more d (by-positive k p later)) in
    let whole : (cell ∷ a) ++ b ≡ text = ap (λ l. l ++ b) (sym line) ∙ take-append-drop d text in
    let left : take k cells ≡ take p cells ++ cell ∷ a =
    ap (λ n. take n cells) (by-arith k p later) ∙ take-add p d cells ∙ ap (λ l. take p cells ++ l) line in
    let right : drop k cells ≡ b = ap (λ n. drop n cells) (by-arith k p later) ∙ sym (drop-drop d p cells) in
    ap (λ l. verdict_between_in profile l (drop k cells)) left
    ∙ ap (λ r. verdict_between_in profile (take p cells ++ cell ∷ a) r) right
    ∙ paragraph_between profile (take p cells) cell a b
    (ap (λ r. (verdict_between_in profile (take p cells) r).kind) whole ∙ must)
    ∙ ap (λ l. verdict_between_in profile l b) (sym line)
