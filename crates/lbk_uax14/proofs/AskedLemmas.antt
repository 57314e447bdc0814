-- What no rule asks of the left side changes no verdict.
use Rattle.std.proofs.Common.{◌≡◌, Bool, true, false, cond, ◌&&◌, not, [], ◌∷◌, refl, sym, ap, ◌∙◌, rules}
use Rattle.lbk_uax14.specs.declared.cells.Cell.{Cell}
use Rattle.lbk_uax14.specs.declared.classes.Class.{Class}
use Rattle.lbk_uax14.specs.declared.classes.Class.TheVariants.{Alphabetic, CloseParenthesis, EBase, PrefixNumeric}
use Rattle.lbk_uax14.specs.declared.classes.Class.TheVariants.{Quotation}
use Rattle.lbk_uax14.specs.declared.classes.Quote.{Quote}
use Rattle.lbk_uax14.specs.declared.classes.Quote.TheVariants.{Neither, Initial}
use Rattle.lbk_uax14.specs.declared.verdicts.Kind.TheVariants.{No, May}
use Rattle.lbk_uax14.specs.declared.verdicts.Rule.TheVariants.{Lb30b, Lb31}
use Rattle.lbk_uax14.specs.declared.verdicts.Verdict.{Verdict}
use Rattle.lbk_values.specs.declared.profile.Profile.{Profile}
use Rattle.lbk_values.specs.declared.profile.Profile.TheVariants.{First, Second}
use Rattle.lbk_uax14.specs.Asked.{asked_of_cell, asked_before_spaces, asked_class, asked_of_unit}
use Rattle.lbk_uax14.specs.Chain.{choose, from_11, from_14, from_15, from_16, from_19, from_23, from_25, from_26}
use Rattle.lbk_uax14.specs.Chain.{from_28}
use Rattle.lbk_uax14.specs.Classes.{Set, ◌or◌, B2, BA, CL, CP, EM, HL, HY, OP, QU, RI, SP, ZW, hard, is, opens_after}
use Rattle.lbk_uax14.specs.Facts.{class_cell}
use Rattle.lbk_uax14.specs.Rules.{cell_rules, joining_rules, opening_rules, quotation_rules, space_rules, hyphen_rules}
use Rattle.lbk_uax14.specs.Rules.{affix_rules, number_rules, syllable_rules, letter_rules}
use Rattle.lbk_uax14.specs.Sides.{Side, at, at_odd_run, before_spaces, is_initial, leaves_open, opens_quotation}
use Rattle.lbk_uax14.specs.Sides.{past_spaces}

-- The last cell

-- a cell by its parts
abbrev cell_of : Class → Bool → Bool → Quote → Bool → Cell
cell_of class wide pict_cn quote letter =
    record { class = class; wide = wide; pict_cn = pict_cn; quote = quote; letter = letter }

pub hard-asked : (class : Class) → hard (asked_of_cell class) ≡ hard class
unfolding asked_of_cell is
hard-asked Alphabetic = refl
hard-asked _ = refl

-- a cell of what is asked stands for the last cell
cells-parts : (class : Class) (wide pict_cn : Bool) (quote : Quote) (letter : Bool) (side right : Side) (v : Verdict)
    → choose cell_rules (class_cell (asked_of_cell class) ∷ cell_of class wide pict_cn quote letter ∷ side) right v
    ≡ choose cell_rules (cell_of class wide pict_cn quote letter ∷ side) right v
unfolding asked_of_cell is cell_rules before_spaces
cells-parts Alphabetic wide pict_cn quote letter side right v = refl
cells-parts _ wide pict_cn quote letter side right v = refl

pub cells-asked : (cell : Cell) (side right : Side) (v : Verdict)
    → choose cell_rules (class_cell (asked_of_cell cell.class) ∷ cell ∷ side) right v
    ≡ choose cell_rules (cell ∷ side) right v
cells-asked cell side right v = cells-parts cell.class cell.wide cell.pict_cn cell.quote cell.letter side right v

zero_width-parts : (class : Class) (side : Side)
    → ZW (cond (SP (asked_of_cell class)) (cond (SP class) (before_spaces side) class) (asked_of_cell class))
    ≡ ZW (cond (SP class) (before_spaces side) class)
unfolding asked_of_cell is
zero_width-parts Alphabetic side = refl
zero_width-parts _ side = refl

pub zero_width-asked : (cell : Cell) (side : Side)
    → past_spaces ZW (class_cell (asked_of_cell cell.class) ∷ cell ∷ side) ≡ past_spaces ZW (cell ∷ side)
unfolding before_spaces
zero_width-asked cell side = zero_width-parts cell.class side

-- The class of the last unit

-- sets that rules ask for have the class asked for where they have the class
record IsAsked (asked class : Class) : Type 0 where
  space : SP asked ≡ SP class
  indicator : RI asked ≡ RI class
  hyphen : (HY or BA) asked ≡ (HY or BA) class
  hebrew : HL asked ≡ HL class
  opens_after : opens_after asked ≡ opens_after class
  opening : OP asked ≡ OP class
  quotation : QU asked ≡ QU class
  closing : (CL or CP) asked ≡ (CL or CP) class
  dash : B2 asked ≡ B2 class

is_asked : (class : Class) (wide : Bool) → IsAsked (asked_class class wide) class
unfolding asked_class is
is_asked CloseParenthesis true = search rules
is_asked _ _ = search rules

pub hebrew-asked : (class : Class) (wide : Bool) → HL (asked_class class wide) ≡ HL class
hebrew-asked class wide = (is_asked class wide).hebrew

pub opens_after-asked : (class : Class) (wide : Bool) → opens_after (asked_class class wide) ≡ opens_after class
opens_after-asked class wide = (is_asked class wide).opens_after

-- What stands before the spaces

record IsAskedBefore (asked class : Class) : Type 0 where
  opening : OP asked ≡ OP class
  quotation : QU asked ≡ QU class
  closing : (CL or CP) asked ≡ (CL or CP) class
  dash : B2 asked ≡ B2 class

is_asked_before : (class : Class) → IsAskedBefore (asked_before_spaces class) class
unfolding asked_before_spaces is
is_asked_before Alphabetic = search rules
is_asked_before _ = search rules

-- a set that is asked of what stands before the spaces, where the last unit may be a space itself
past_spaces-asked : (set : Set) (cell : Cell) (side : Side)
    → ((class : Class) (wide : Bool) → set (asked_class class wide) ≡ set class)
    → ((class : Class) → set (asked_before_spaces class) ≡ set class)
    → past_spaces set (asked_of_unit cell ∷ side) ≡ set (asked_before_spaces (before_spaces (cell ∷ side)))
unfolding asked_of_unit before_spaces
past_spaces-asked set cell side same before =
    let last = asked_class cell.class cell.wide in
    ap (λ v. set (cond v (before_spaces side) last)) (is_asked cell.class cell.wide).space
    ∙ (elim (SP cell.class)
    as (λ v. set (cond v (before_spaces side) last)
    ≡ set (asked_before_spaces (cond v (before_spaces side) cell.class)))
    [ true ↦ sym (before (before_spaces side)) | false ↦ same cell.class cell.wide ∙ sym (before cell.class) ])

pub opening-asked : (cell : Cell) (side : Side) → past_spaces OP (asked_of_unit cell ∷ side)
    ≡ OP (asked_before_spaces (before_spaces (cell ∷ side)))
opening-asked cell side = past_spaces-asked OP cell side (λ class wide. (is_asked class wide).opening)
    (λ class. (is_asked_before class).opening)

pub quoting-asked : (cell : Cell) (side : Side) → past_spaces QU (asked_of_unit cell ∷ side)
    ≡ QU (asked_before_spaces (before_spaces (cell ∷ side)))
quoting-asked cell side = past_spaces-asked QU cell side (λ class wide. (is_asked class wide).quotation)
    (λ class. (is_asked_before class).quotation)

pub closing-asked : (cell : Cell) (side : Side)
    → past_spaces (CL or CP) (asked_of_unit cell ∷ side)
    ≡ (CL or CP) (asked_before_spaces (before_spaces (cell ∷ side)))
closing-asked cell side = past_spaces-asked (CL or CP) cell side (λ class wide. (is_asked class wide).closing)
    (λ class. (is_asked_before class).closing)

pub dashes-asked : (cell : Cell) (side : Side)
    → past_spaces B2 (asked_of_unit cell ∷ side) ≡ B2 (asked_before_spaces (before_spaces (cell ∷ side)))
dashes-asked cell side = past_spaces-asked B2 cell side (λ class wide. (is_asked class wide).dash)
    (λ class. (is_asked_before class).dash)

-- The last unit

pub at_hyphen-asked : (cell : Cell) (side : Side)
    → at (HY or BA) (asked_of_unit cell ∷ side) ≡ at (HY or BA) (cell ∷ side)
unfolding asked_of_unit
at_hyphen-asked cell side = (is_asked cell.class cell.wide).hyphen

pub odd_run-asked : (cell : Cell) (side : Side) → at_odd_run (asked_of_unit cell ∷ side) ≡ at_odd_run (cell ∷ side)
unfolding asked_of_unit at_odd_run
odd_run-asked cell side = ap (λ v. v && not (at_odd_run side)) (is_asked cell.class cell.wide).indicator

mark_opens : (q : Bool) (quote : Quote) → (q && is_initial (cond (q && is_initial quote) Initial Neither))
    ≡ (q && is_initial quote)
mark_opens false _ = refl
mark_opens true Initial = refl
mark_opens true _ = refl

pub quotation-asked : (cell : Cell) (side : Side) → opens_quotation (asked_of_unit cell ∷ side)
    ≡ opens_quotation (cell ∷ side)
unfolding asked_of_unit opens_quotation
quotation-asked cell side =
    let quote = cond (QU cell.class && is_initial cell.quote) Initial Neither in
    ap (λ v. cond v (opens_quotation side) ((QU (asked_class cell.class cell.wide) && is_initial quote)
    && leaves_open side)) (is_asked cell.class cell.wide).space
    ∙ ap (λ v. cond (SP cell.class) (opens_quotation side) ((v && is_initial quote) && leaves_open side))
    (is_asked cell.class cell.wide).quotation
    ∙ ap (λ v. cond (SP cell.class) (opens_quotation side) (v && leaves_open side))
    (mark_opens (QU cell.class) cell.quote)

-- The rules over units

-- the rules before LB28, and what they leave to it
abbrev before_28 : Profile → Side → Side → Verdict → Verdict
before_28 profile left right otherwise =
    choose joining_rules left right (choose opening_rules left right
    (choose (quotation_rules profile) left right (choose space_rules left right
    (choose hyphen_rules left right (choose affix_rules left right
    (choose number_rules left right (choose syllable_rules left right otherwise)))))))

-- the answers of LB30b and LB31
abbrev stays_together : Verdict
stays_together = record { kind = No; rule = Lb30b }

abbrev may_break : Verdict
may_break = record { kind = May; rule = Lb31 }

decided_twice : (p q : Bool) (a b : Verdict) → cond q a (cond (p && q) a b) ≡ cond q a b
decided_twice p true a b = refl
decided_twice true false a b = refl
decided_twice false false a b = refl

-- what is computed with to compare units
compared : Unit {0}
unfolding asked_of_unit asked_class is from_11 from_14 from_15 from_16 from_19 from_23 from_25 from_26 from_28
    joining_rules opening_rules quotation_rules space_rules hyphen_rules affix_rules number_rules syllable_rules
    letter_rules before_spaces at_odd_run opens_quotation
compared = tt

after_prefix : (profile : Profile) (wide pict_cn : Bool) (quote : Quote) (letter : Bool) (side : Side)
    (class : Class) (wide_2 pict_2 : Bool) (quote_2 : Quote) (letter_2 : Bool) (more : Side)
    → from_11 profile (asked_of_unit (cell_of PrefixNumeric wide pict_cn quote letter) ∷ side)
    (cell_of class wide_2 pict_2 quote_2 letter_2 ∷ more)
    ≡ from_11 profile (cell_of PrefixNumeric wide pict_cn quote letter ∷ side)
    (cell_of class wide_2 pict_2 quote_2 letter_2 ∷ more)
unfolding compared
after_prefix First wide true quote letter side Alphabetic wide_2 pict_2 quote_2 letter_2 more = refl
after_prefix First wide false quote letter side Alphabetic wide_2 pict_2 quote_2 letter_2 more = refl
after_prefix First wide true quote letter side _ wide_2 pict_2 quote_2 letter_2 more = refl
after_prefix First wide false quote letter side _ wide_2 pict_2 quote_2 letter_2 more = refl
after_prefix Second wide true quote letter side Alphabetic wide_2 pict_2 quote_2 letter_2 more = refl
after_prefix Second wide false quote letter side Alphabetic wide_2 pict_2 quote_2 letter_2 more = refl
after_prefix Second wide true quote letter side _ wide_2 pict_2 quote_2 letter_2 more = refl
after_prefix Second wide false quote letter side _ wide_2 pict_2 quote_2 letter_2 more = refl

prefix-parts : (profile : Profile) (wide pict_cn : Bool) (quote : Quote) (letter : Bool) (side right : Side)
    → from_11 profile (asked_of_unit (cell_of PrefixNumeric wide pict_cn quote letter) ∷ side) right
    ≡ from_11 profile (cell_of PrefixNumeric wide pict_cn quote letter ∷ side) right
unfolding compared
prefix-parts First wide true quote letter side [] = refl
prefix-parts First wide false quote letter side [] = refl
prefix-parts Second wide true quote letter side [] = refl
prefix-parts Second wide false quote letter side [] = refl
prefix-parts profile wide pict_cn quote letter side (r ∷ more) =
    after_prefix profile wide pict_cn quote letter side r.class r.wide r.pict_cn r.quote r.letter more

base-parts : (profile : Profile) (wide pict_cn : Bool) (quote : Quote) (letter : Bool) (side right : Side)
    → from_11 profile (asked_of_unit (cell_of EBase wide pict_cn quote letter) ∷ side) right
    ≡ from_11 profile (cell_of EBase wide pict_cn quote letter ∷ side) right
unfolding compared
base-parts First wide pict_cn quote letter side right =
    ap (before_28 First (cell_of EBase wide pict_cn quote letter ∷ side) right)
    (sym (decided_twice pict_cn (at EM right) stays_together may_break))
base-parts Second wide pict_cn quote letter side right =
    ap (before_28 Second (cell_of EBase wide pict_cn quote letter ∷ side) right)
    (sym (decided_twice pict_cn (at EM right) stays_together may_break))

from_11-parts : (class : Class) (profile : Profile) (wide pict_cn : Bool) (quote : Quote) (letter : Bool)
    (side right : Side)
    → from_11 profile (asked_of_unit (cell_of class wide pict_cn quote letter) ∷ side) right
    ≡ from_11 profile (cell_of class wide pict_cn quote letter ∷ side) right
unfolding compared
from_11-parts CloseParenthesis First true pict_cn quote letter side right = refl
from_11-parts CloseParenthesis First false pict_cn quote letter side right = refl
from_11-parts CloseParenthesis Second true pict_cn quote letter side right = refl
from_11-parts CloseParenthesis Second false pict_cn quote letter side right = refl
from_11-parts EBase profile wide pict_cn quote letter side right =
    base-parts profile wide pict_cn quote letter side right
from_11-parts PrefixNumeric profile wide pict_cn quote letter side right =
    prefix-parts profile wide pict_cn quote letter side right
from_11-parts Quotation First wide pict_cn quote letter side right = refl
from_11-parts Quotation Second wide pict_cn Initial letter side right = refl
from_11-parts Quotation Second wide pict_cn _ letter side right = refl
from_11-parts _ First wide pict_cn quote letter side right = refl
from_11-parts _ Second wide pict_cn quote letter side right = refl

pub from_11-asked : (profile : Profile) (cell : Cell) (side right : Side)
    → from_11 profile (asked_of_unit cell ∷ side) right ≡ from_11 profile (cell ∷ side) right
from_11-asked profile cell side right = from_11-parts cell.class profile cell.wide cell.pict_cn cell.quote cell.letter
    side right
