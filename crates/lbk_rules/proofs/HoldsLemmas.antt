-- What a stepper holds is what waits.
use Rattle.std.proofs.Common.{◌≡◌, ℕ, Bool, true, false, cond, not, Option, Some, None, List, [], ◌∷◌, length, reverse, refl, sym, ap, ◌∙◌}
use Rattle.std.specs.Option.{is_some}
use Rattle.std.proofs.lemmas.Bool.{false≢true}
use Rattle.lbk_uax14.specs.declared.cells.Cell.{Cell}
use Rattle.lbk_uax14.specs.declared.facts.Left.{Left}
use Rattle.lbk_uax14.specs.declared.late_machine.Held.{Held}
use Rattle.lbk_rules.specs.declared.stepper.HeldRow.{HeldRow}
use Rattle.lbk_values.specs.declared.profile.Profile.{Profile}
use Rattle.lbk_values.specs.declared.profile.Profile.TheVariants.{Second}
use Rattle.lbk_uax14.specs.declared.verdicts.Verdict.{Verdict}
use Rattle.lbk_uax14.specs.Chain.{from_cells}
use Rattle.lbk_uax14.specs.Classes.{closes_before, hard}
use Rattle.lbk_uax14.specs.Facts.{closes_in, facts}
use Rattle.lbk_uax14.specs.Held.{answer_at, is_15b, late_at, unanswered}
use Rattle.lbk_uax14.specs.LateFits.{waiting}
use Rattle.lbk_rules.specs.StepperFits.{Holds, IsAnswer, IsHeldRow}
use Rattle.lbk_uax14.specs.Sides.{Side}
use Rattle.lbk_uax14.specs.Units.{heads, nearest, unit, units_after}
use Rattle.lbk_uax14.proofs.WaitingLemmas.{answer-none, answer-waiting, position_of, unanswered-waiting}

-- where nothing is held, nothing waits
pub Holds-none : (profile : Profile) (waits : Option Held) → Holds profile None waits → waits ≡ None
Holds-none profile None holds = refl
Holds-none profile (Some _) holds = absurd holds

none-Holds : (profile : Profile) (waits : Option Held) → position_of waits ≡ None → Holds profile None waits
none-Holds profile None e = tt
none-Holds profile (Some _) e = (let no : ⊥ = cc in no)

pub Holds-unanswered : (profile : Profile) (cells : List Cell) → unanswered profile cells ≡ None
    → Holds profile None (waiting profile (reverse cells))
Holds-unanswered profile cells none =
    none-Holds profile (waiting profile (reverse cells)) (sym (unanswered-waiting profile (reverse cells)) ∙ none)

both : (profile : Profile) (held : HeldRow) (waits : Held) (closes : Bool) → IsHeldRow profile held waits
    → IsAnswer profile waits closes (cond closes held.if_closed held.if_open)
both profile held waits true is = is.if_closed
both profile held waits false is = is.if_open

-- the answer of what is held is that of what waits
pub Holds-answer : (profile : Profile) (cells more : List Cell) (held : HeldRow) (closes : Bool) (waits : Option Held)
    → waiting profile (reverse cells) ≡ waits → Holds profile (Some held) waits
    → closes_in Second (units_after (hard (nearest (reverse cells)).class) more) ≡ closes
    → Some (held.position, cond closes held.if_closed held.if_open) ≡ answer_at profile cells more
Holds-answer profile cells more held closes None e holds closed = absurd holds
Holds-answer profile cells more held closes (Some waits) e holds closed =
    ap (λ p. Some (p, cond closes held.if_closed held.if_open)) holds.position_same
    ∙ answer-waiting profile cells more waits closes (cond closes held.if_closed held.if_open) e closed (both profile held waits closes holds)

-- where nothing is held, no cell brings an answer
pub Holds-no_late : (profile : Profile) (cells : List Cell) (cell : Cell) (more : List Cell)
    → Holds profile None (waiting profile (reverse cells)) → None ≡ late_at profile cells cell more
Holds-no_late profile cells cell more holds =
    elim (heads (reverse cells) cell) as (λ v. None ≡ cond v (answer_at profile cells (cell ∷ more)) None)
    [ true ↦ answer-none profile cells (cell ∷ more) (Holds-none profile (waiting profile (reverse cells)) holds) | false ↦ refl ]

-- One more cell

pub Holds-here : (profile : Profile) (side : Side) (cell : Cell) (held : HeldRow)
    → is_15b (from_cells profile side (cell ∷ [])).rule ≡ true
    → IsHeldRow profile held (record { position = length side; left = facts side; quotation = cell })
    → Holds profile (Some held) (waiting profile (cell ∷ side))
unfolding waiting
Holds-here profile side cell held here is = rw here is

pub Holds-head : (profile : Profile) (side : Side) (cell : Cell)
    → is_15b (from_cells profile side (cell ∷ [])).rule ≡ false → heads side cell ≡ true
    → Holds profile None (waiting profile (cell ∷ side))
unfolding waiting
Holds-head profile side cell settled head = rw (settled, head) tt

pub Holds-on : (profile : Profile) (side : Side) (cell : Cell) (held : Option HeldRow)
    → is_15b (from_cells profile side (cell ∷ [])).rule ≡ false → heads side cell ≡ false
    → Holds profile held (waiting profile side) → Holds profile held (waiting profile (cell ∷ side))
unfolding waiting
Holds-on profile side cell held settled joins holds = rw (settled, joins) holds

pub Holds-calm : (profile : Profile) (side : Side) (cell : Cell)
    → is_15b (from_cells profile side (cell ∷ [])).rule ≡ false
    → Holds profile None (waiting profile side) → Holds profile None (waiting profile (cell ∷ side))
unfolding waiting
Holds-calm profile side cell settled holds =
    rw settled (elim (heads side cell) as (λ v. Holds profile None (cond v None (waiting profile side))) [ true ↦ tt | false ↦ holds ])

-- The answers of a stepper's functions

pub none-held : (held : Option HeldRow) (none : Bool) → is_some held ≡ not none → none ≡ true → held ≡ None
none-held None none e is = refl
none-held (Some _) none e is = absurd (false≢true (sym (e ∙ ap not is)))

pub late-joins : (profile : Profile) (cells : List Cell) (cell : Cell) (more : List Cell)
    → heads (reverse cells) cell ≡ false → None ≡ late_at profile cells cell more
late-joins profile cells cell more joins = sym (ap (λ v. cond v (answer_at profile cells (cell ∷ more)) None) joins)

pub late-head : (profile : Profile) (cells : List Cell) (cell : Cell) (more : List Cell)
    → heads (reverse cells) cell ≡ true → answer_at profile cells (cell ∷ more) ≡ late_at profile cells cell more
late-head profile cells cell more head = sym (ap (λ v. cond v (answer_at profile cells (cell ∷ more)) None) head)

-- a head leaves the quotation mark closed or not
pub head-closes : (side : Side) (cell : Cell) (more : List Cell) → heads side cell ≡ true
    → closes_in Second (units_after (hard (nearest side).class) (cell ∷ more)) ≡ closes_before (unit cell).class
head-closes side cell more head =
    ap (λ v. closes_in Second (cond v (unit cell ∷ units_after (hard cell.class) more) (units_after (hard cell.class) more))) head

pub answer-by : (profile profile' : Profile) (cell cell' : Cell) (left left' : Left) (position : ℕ) (closes : Bool) (verdict : Verdict)
    → profile' ≡ profile → cell' ≡ cell → left ≡ left'
    → ((side more : Side) → facts side ≡ left' → closes_in profile' (units_after (hard cell'.class) more) ≡ closes
    → verdict ≡ from_cells profile' side (cell' ∷ more))
    → IsAnswer profile (record { position = position; left = left; quotation = cell }) closes verdict
answer-by profile profile' cell cell' left left' position closes verdict profile_same cell_same left_same decides = λ side more known closed.
    decides side more (known ∙ left_same)
    (ap (λ p. closes_in p (units_after (hard cell'.class) more)) profile_same
    ∙ ap (λ (u : Cell). closes_in profile (units_after (hard u.class) more)) cell_same
    ∙ closed)
    ∙ ap (λ p. from_cells p side (cell' ∷ more)) profile_same
    ∙ ap (λ u. from_cells profile side (u ∷ more)) cell_same
