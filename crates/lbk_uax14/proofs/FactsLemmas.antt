-- What the facts of the left side say of its units.
use Rattle.std.proofs.Common.{◌≡◌, Bool, true, false, cond, ◌||◌, ◌&&◌, not, List, [], ◌∷◌, refl, sym, ◌∙◌, ap, subst}
use Rattle.std.proofs.Common.{reverse, append_assoc, ◌++◌}
use Rattle.lbk_uax14.specs.declared.cells.Cell.{Cell}
use Rattle.lbk_uax14.specs.declared.classes.Class.{Class}
use Rattle.lbk_uax14.specs.declared.classes.Class.TheVariants.{Quotation}
use Rattle.lbk_uax14.specs.declared.facts.Before.{Before}
use Rattle.lbk_uax14.specs.declared.facts.Left.{Left}
use Rattle.lbk_uax14.specs.declared.verdicts.Verdict.{Verdict}
use Rattle.lbk_values.specs.declared.profile.Profile.{Profile}
use Rattle.lbk_uax14.specs.Asked.{asked_before_spaces, asked_of_unit}
use Rattle.lbk_uax14.specs.Classes.{◌or◌, B2, BA, BK, CL, CP, CR, HL, HY, LF, NL, OP, QU, RI, SP, ZW, is, isZWJ, hard}
use Rattle.lbk_uax14.specs.Classes.{Set, mark, none_of, opens_after}
use Rattle.lbk_uax14.specs.Chain.{choose, from_11, from_cells}
use Rattle.lbk_uax14.specs.Facts.{class_cell, units_before, facts_of_units, facts, Sees}
use Rattle.lbk_uax14.specs.Rules.{cell_rules}
use Rattle.lbk_uax14.specs.Sides.{Side, at, at_odd_run, before_spaces, behind, leaves_open, opening, opens_quotation}
use Rattle.lbk_uax14.specs.Sides.{past_spaces}
use Rattle.lbk_uax14.specs.Units.{unit, units, units_after, nearest}
use Rattle.std.proofs.lemmas.Bool.{true≢false}
use Rattle.std.proofs.lemmas.List.{reverse-append, append-nil}
use Rattle.lbk_uax14.proofs.AskedLemmas.{at_hyphen-asked, cells-asked, closing-asked, dashes-asked, hebrew-asked}
use Rattle.lbk_uax14.proofs.AskedLemmas.{odd_run-asked, opening-asked, opens_after-asked, quotation-asked}
use Rattle.lbk_uax14.proofs.AskedLemmas.{quoting-asked, zero_width-asked}

-- a quotation mark is in no set that lacks its class
pub QU-apart : (set : Set) → set Quotation ≡ false → (class : Class) → QU class ≡ true → set class ≡ false
unfolding is
QU-apart set none Quotation _ = none
QU-apart set none _ h = absurd (true≢false (sym h))

-- a list with a first element
abbrev pub Begins : Side → Type 0
Begins units = (rest : Side) × (units ≡ nearest units ∷ rest)

-- with some cell there is some unit
pub units_before-begins : (cell : Cell) (side : Side) → Begins (units_before (cell ∷ side))
unfolding is
units_before-begins cell [] = (_, refl)
units_before-begins cell (next ∷ side) =
    elim (hard next.class || none_of mark cell.class)
    as (λ v. Begins (cond v (unit cell ∷ units_before (next ∷ side)) (units_before (next ∷ side))))
    [ true ↦ (_, refl) | false ↦ units_before-begins next side ]

nearest-hebrew : (side : Side) → HL (nearest side).class ≡ at HL side
unfolding is
nearest-hebrew [] = refl
nearest-hebrew (_ ∷ _) = refl

nearest-opens : (side : Side) → opens_after (nearest side).class ≡ leaves_open side
unfolding is
nearest-opens [] = refl
nearest-opens (_ ∷ _) = refl

-- what is known of some units and one more
pub facts-then : (unit : Cell) (side : Side) (before : Before) (last : Cell) (spaces : Class)
    (hebrew indicators quotation : Bool)
    → facts_of_units side ≡ before
    → last ≡ asked_of_unit unit
    → spaces ≡ cond (SP unit.class) before.before_spaces (asked_before_spaces unit.class)
    → hebrew ≡ ((HY or BA) unit.class && HL before.last.class)
    → indicators ≡ (RI unit.class && not before.odd_indicators)
    → quotation ≡ cond (SP unit.class) before.opens_quotation (opening unit && opens_after before.last.class)
    → record {
      last = last;
      before_spaces = spaces;
      hebrew_hyphen = hebrew;
      odd_indicators = indicators;
      opens_quotation = quotation;
    }
    ≡ facts_of_units (unit ∷ side)
unfolding asked_of_unit before_spaces at_odd_run opens_quotation
facts-then unit side before last spaces hebrew indicators quotation known last_is spaces_is hebrew_is indicators_is
    quotation_is =
    let far = nearest side in
    let by_spaces : spaces ≡ asked_before_spaces (before_spaces (unit ∷ side)) =
    spaces_is
    ∙ ap (λ b. cond (SP unit.class) b.before_spaces (asked_before_spaces unit.class)) (sym known)
    ∙ (elim (SP unit.class)
    as (λ v. cond v (asked_before_spaces (before_spaces side)) (asked_before_spaces unit.class)
    ≡ asked_before_spaces (cond v (before_spaces side) unit.class))
    [ true ↦ refl | false ↦ refl ]) in
    let by_hebrew : hebrew ≡ (at (HY or BA) (unit ∷ side) && behind HL (unit ∷ side)) =
    hebrew_is
    ∙ ap (λ b. (HY or BA) unit.class && HL b.last.class) (sym known)
    ∙ ap (λ v. (HY or BA) unit.class && v) (hebrew-asked far.class far.wide ∙ nearest-hebrew side) in
    let by_indicators : indicators ≡ at_odd_run (unit ∷ side) =
    indicators_is ∙ ap (λ b. RI unit.class && not b.odd_indicators) (sym known) in
    let by_quotation : quotation ≡ opens_quotation (unit ∷ side) =
    quotation_is
    ∙ ap (λ b. cond (SP unit.class) b.opens_quotation (opening unit && opens_after b.last.class)) (sym known)
    ∙ ap (λ v. cond (SP unit.class) (opens_quotation side) (opening unit && v)) (opens_after-asked far.class far.wide
    ∙ nearest-opens side) in
    λ i. record {
      last = last_is i;
      before_spaces = by_spaces i;
      hebrew_hyphen = by_hebrew i;
      odd_indicators = by_indicators i;
      opens_quotation = by_quotation i;
    }

-- what is known of a side that begins, by its last unit
pub Sees-facts : (cell : Cell) (side : Side) (left : Left) → facts (cell ∷ side) ≡ left
    → (last : Cell) × (rest : Side) × (units_before (cell ∷ side) ≡ last ∷ rest)
    × (asked_of_unit last ≡ left.units.last) × Sees left.units rest
unfolding facts
Sees-facts cell side left e =
    let begins = units_before-begins cell side in
    let last = nearest (units_before (cell ∷ side)) in
    let rest = begins.0 in
    let P : Left → Type 0 = λ l.
    (last : Cell) × (rest : Side) × (units_before (cell ∷ side) ≡ last ∷ rest) × (asked_of_unit last ≡ l.units.last)
    × Sees l.units rest in
    let same = sym begins.1 in
    subst P e (
      last,
      rest,
      begins.1,
      refl,
      record {
        opening = opening-asked last rest ∙ ap (λ u. OP (facts_of_units u).before_spaces) same;
        quoting = quoting-asked last rest ∙ ap (λ u. QU (facts_of_units u).before_spaces) same;
        closing = closing-asked last rest ∙ ap (λ u. (CL or CP) (facts_of_units u).before_spaces) same;
        dashes = dashes-asked last rest ∙ ap (λ u. B2 (facts_of_units u).before_spaces) same;
        hebrew = ap (λ v. v && behind HL (last ∷ rest)) (at_hyphen-asked last rest)
            ∙ ap (λ u. (facts_of_units u).hebrew_hyphen) same;
        indicators = odd_run-asked last rest ∙ ap (λ u. (facts_of_units u).odd_indicators) same;
        quotation = quotation-asked last rest ∙ ap (λ u. (facts_of_units u).opens_quotation) same;
      },
    )

-- where no rule over cells holds, what follows them decides
pub no_cell_rule : (last : Class) (side : Side) (right : Cell) (more : Side) (otherwise : Verdict)
    → BK last ≡ false → (CR last && LF right.class) ≡ false → (BK or CR or LF or NL) last ≡ false
    → (BK or CR or LF or NL) right.class ≡ false → (SP or ZW) right.class ≡ false
    → past_spaces ZW (class_cell last ∷ side) ≡ false → isZWJ last ≡ false
    → (none_of hard last && mark right.class) ≡ false
    → choose cell_rules (class_cell last ∷ side) (right ∷ more) otherwise ≡ otherwise
unfolding cell_rules
no_cell_rule last side right more otherwise mandatory within ends before_end before_space zero_width joiner joins =
    let others : (CR or LF or NL) last ≡ false = sym (ap (λ b. ((b || CR last) || LF last) || NL last) mandatory)
    ∙ ends in
    rw (joins, mandatory, within, others, before_end, before_space, zero_width, joiner) refl

-- a verdict by what is known of the last cell is that of the rules
pub verdict-facts : (profile : Profile) (left : Left) (side more : Side) (right : Cell) (verdict : Verdict)
    → facts side ≡ left → left.empty ≡ false
    → ((cell : Cell) (rest : Side) → facts (cell ∷ rest) ≡ left
    → past_spaces ZW (class_cell left.last ∷ cell ∷ rest) ≡ left.past_zero_width
    → verdict ≡ choose cell_rules (class_cell left.last ∷ cell ∷ rest) (right ∷ more)
    (from_11 profile (units_before (cell ∷ rest)) (units (right ∷ more))))
    → verdict ≡ from_cells profile side (right ∷ more)
unfolding facts from_cells
verdict-facts profile left [] more right verdict known full decided =
    absurd (true≢false (ap (λ l. l.empty) known ∙ full))
verdict-facts profile left (cell ∷ rest) more right verdict known full decided =
    let last = ap (λ l. l.last) (sym known) in
    let otherwise = from_11 profile (units_before (cell ∷ rest)) (units (right ∷ more)) in
    decided cell rest known
    (ap (λ class. past_spaces ZW (class_cell class ∷ cell ∷ rest)) last ∙ zero_width-asked cell rest
    ∙ ap (λ l. l.past_zero_width) known)
    ∙ ap (λ class. choose cell_rules (class_cell class ∷ cell ∷ rest) (right ∷ more) otherwise) last
    ∙ cells-asked cell rest (right ∷ more) otherwise

-- cells put before a side one by one
abbrev pub onto : List Cell → Side → Side
onto [] side = side
onto (cell ∷ cells) side = onto cells (cell ∷ side)

onto-reverse : (cells side : List Cell) → onto cells side ≡ reverse cells ++ side
onto-reverse [] side = refl
onto-reverse (cell ∷ cells) side =
    onto-reverse cells (cell ∷ side)
    ∙ sym (append_assoc (reverse cells) (cell ∷ []) side)
    ∙ sym (ap (λ s. s ++ side) (reverse-append (cell ∷ []) cells))

pub onto-nil : (cells : List Cell) → onto cells [] ≡ reverse cells
onto-nil cells = onto-reverse cells [] ∙ append-nil (reverse cells)

-- the units of a list, read outwards, are those of the list read outwards
units-onto : (cells side : List Cell)
    → units_before (onto cells side) ≡ onto (units_after (hard (nearest side).class) cells) (units_before side)
units-onto [] side = refl
units-onto (cell ∷ cells) side =
    units-onto cells (cell ∷ side)
    ∙ (elim (hard (nearest side).class || none_of mark cell.class)
    as (λ v. onto (units_after (hard cell.class) cells) (cond v (unit cell ∷ units_before side) (units_before side))
    ≡ onto (cond v (unit cell ∷ units_after (hard cell.class) cells) (units_after (hard cell.class) cells))
    (units_before side))
    [ true ↦ refl | false ↦ refl ])

pub units_before-reverse : (cells : List Cell) → units_before (reverse cells) ≡ reverse (units cells)
unfolding is
units_before-reverse cells =
    ap units_before (sym (onto-nil cells)) ∙ units-onto cells [] ∙ onto-nil (units cells)
