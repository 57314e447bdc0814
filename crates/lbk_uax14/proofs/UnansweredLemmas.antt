-- The position that waits, in words.
use Rattle.std.proofs.Common.{◌≡◌, ℕ, ◌+◌, ◌<◌, Bool, true, false, cond, Option, Some, None, List, [], ◌∷◌, ◌++◌}
use Rattle.std.proofs.Common.{length, take, drop, get_or, reverse, refl, sym, ap, ◌∙◌, arith}
use Rattle.std.proofs.lemmas.Bool.{false≢true}
use Rattle.std.proofs.lemmas.List.{append-nil, drop_more, length-append, length-reverse, length-take-le}
use Rattle.std.proofs.lemmas.List.{reverse-reverse, take-append-drop, take_at, drop_at}
use Rattle.lbk_uax14.specs.declared.cells.Cell.{Cell}
use Rattle.lbk_uax14.specs.declared.late_machine.Held.{Held}
use Rattle.lbk_values.specs.declared.profile.Profile.{Profile}
use Rattle.lbk_uax14.specs.Classes.{hard}
use Rattle.lbk_uax14.specs.Chain.{from_cells}
use Rattle.lbk_uax14.specs.Held.{is_15b, is_held, unanswered, unanswered_before}
use Rattle.lbk_uax14.specs.LateFits.{waiting}
use Rattle.lbk_uax14.specs.Sides.{Side}
use Rattle.lbk_uax14.specs.Units.{first, next_unit, unit, units_after, heads, nearest, space}
use Rattle.lbk_uax14.proofs.CoverLemmas.{held-heads}
use Rattle.lbk_uax14.proofs.FactsLemmas.{onto, onto-nil}
use Rattle.lbk_uax14.proofs.HeldLemmas.{is_held-chain}
use Rattle.lbk_uax14.proofs.WaitingLemmas.{position_of, unanswered-waiting, Waits-waiting}

-- a held position: the cells before it, and the closing quotation mark and the marks after it, with no further unit
pub record IsUnanswered (profile : Profile) (cells : List Cell) (p : ℕ) : Type 0 where
  pub within : p < length cells
  pub held : is_held profile (take p cells) (drop p cells) ≡ true
  pub last : next_unit (drop p cells) ≡ None

waiting-position : (waits : Option Held) (p : ℕ) → position_of waits ≡ Some p → (held : Held) × (waits ≡ Some held)
    × (held.position ≡ p)
waiting-position None p e = absurd (let no : ⊥ = cc in no)
waiting-position (Some held) p e = (held, refl, let same : held.position ≡ p = cc in same)

pub unanswered-named : (profile : Profile) (cells : List Cell) (p : ℕ) → unanswered profile cells ≡ Some p
    → IsUnanswered profile cells p
unanswered-named profile cells p e =
    let found = waiting-position (waiting profile (reverse cells)) p (sym (unanswered-waiting profile (reverse cells))
    ∙ e) in
    let held = found.0 in
    let w = Waits-waiting profile (reverse cells) held found.1 in
    let left = reverse w.far in
    let right = held.quotation ∷ w.marks in
    let split : cells ≡ left ++ right = sym (reverse-reverse cells) ∙ w.cells_same in
    let place : length left ≡ p = length-reverse w.far ∙ sym w.position_same ∙ found.2 in
    let before : take p cells ≡ left = ap (λ l. take p l) split ∙ take_at left right p place in
    let after : drop p cells ≡ right = ap (λ l. drop p l) split ∙ drop_at left right p place in
    let count : length cells ≡ length left + length right = ap length split ∙ length-append left right in
    record {
      within = omega arith;
      held =
          ap (λ l. is_held profile l (drop p cells)) before ∙ ap (λ r. is_held profile left r) after
          ∙ is_held-chain profile left held.quotation w.marks
          ∙ ap (λ l. is_15b (from_cells profile l (held.quotation ∷ [])).rule) (reverse-reverse w.far) ∙ w.held_there;
      last =
          ap next_unit after
          ∙ ap (λ l. first (units_after (hard held.quotation.class) l)) (sym (append-nil w.marks))
          ∙ ap first (w.still_open []);
    }

-- the other way round

first-none : (a : Side) → first a ≡ None → a ≡ []
first-none [] e = refl
first-none (_ ∷ _) e = absurd (let no : ⊥ = cc in no)

false-unless : (b : Bool) → (b ≡ true → ⊥) → b ≡ false
false-unless true h = absurd (h refl)
false-unless false h = refl

onto-append : (a b : List Cell) (side : Side) → onto (a ++ b) side ≡ onto b (onto a side)
onto-append [] b side = refl
onto-append (cell ∷ a) b side = onto-append a b (cell ∷ side)

-- a mark leaves the position unanswered
unanswered-mark : (profile : Profile) (cell : Cell) (side : Side) → heads side cell ≡ false
    → unanswered_before profile (cell ∷ side) ≡ unanswered_before profile side
unfolding unanswered_before
unanswered-mark profile cell side joins =
    let not_held : is_held profile (reverse side) (cell ∷ []) ≡ false =
    false-unless (is_held profile (reverse side) (cell ∷ []))
    (λ held. false≢true (sym joins ∙ ap (λ l. heads l cell) (sym (reverse-reverse side))
    ∙ held-heads profile (reverse side) cell [] held)) in
    ap (λ v. cond v (Some (length side)) (cond (heads side cell) None (unanswered_before profile side))) not_held
    ∙ ap (λ v. cond v None (unanswered_before profile side)) joins

no-unit : (begins : Bool) (head : Cell) (a b : Side) → cond begins (head ∷ a) b ≡ [] → (begins ≡ false) × (b ≡ [])
no-unit true head a b e = absurd (let no : ⊥ = cc in no)
no-unit false head a b e = (refl, e)

unanswered-marks : (profile : Profile) (marks : List Cell) (side : Side) → units_after (hard (nearest side).class) marks
    ≡ []
    → unanswered_before profile (onto marks side) ≡ unanswered_before profile side
unanswered-marks profile [] side none = refl
unanswered-marks profile (cell ∷ marks) side none =
    let here = no-unit (heads side cell) (unit cell) (units_after (hard cell.class) marks)
    (units_after (hard cell.class) marks) none in
    unanswered-marks profile marks (cell ∷ side) here.1 ∙ unanswered-mark profile cell side here.0

unanswered-here : (profile : Profile) (left : List Cell) (cell : Cell) (more : List Cell)
    → is_held profile left (cell ∷ more) ≡ true
    → unanswered_before profile (cell ∷ reverse left) ≡ Some (length left)
unfolding unanswered_before
unanswered-here profile left cell more held =
    ap (λ v. cond v (Some (length (reverse left)))
    (cond (heads (reverse left) cell) None (unanswered_before profile (reverse left))))
    (ap (λ l. is_held profile l (cell ∷ [])) (reverse-reverse left)
    ∙ is_held-chain profile left cell [] ∙ sym (is_held-chain profile left cell more) ∙ held)
    ∙ ap Some (length-reverse left)

unanswered-split : (profile : Profile) (left : List Cell) (cell : Cell) (marks : List Cell)
    → is_held profile left (cell ∷ marks) ≡ true
    → units_after (hard cell.class) marks ≡ [] → unanswered profile (left ++ cell ∷ marks) ≡ Some (length left)
unanswered-split profile left cell marks held none =
    ap (unanswered_before profile)
    (sym (onto-nil (left ++ cell ∷ marks)) ∙ onto-append left (cell ∷ marks) []
    ∙ ap (λ s. onto marks (cell ∷ s)) (onto-nil left))
    ∙ unanswered-marks profile marks (cell ∷ reverse left) none
    ∙ unanswered-here profile left cell marks held

pub unanswered-alone : (profile : Profile) (cells : List Cell) (p : ℕ) → IsUnanswered profile cells p
    → unanswered profile cells ≡ Some p
unanswered-alone profile cells p is =
    let cell = get_or cells p space in
    let marks = drop (p + 1) cells in
    let within : p < length cells = is.within in
    let right : drop p cells ≡ cell ∷ marks = drop_more cells p space within in
    let whole : cells ≡ take p cells ++ cell ∷ marks = sym (take-append-drop p cells)
    ∙ ap (λ r. take p cells ++ r) right in
    let held : is_held profile (take p cells) (cell ∷ marks) ≡ true =
    ap (λ r. is_held profile (take p cells) r) (sym right) ∙ is.held in
    let none : units_after (hard cell.class) marks ≡ [] =
    first-none (units_after (hard cell.class) marks) (ap next_unit (sym right) ∙ is.last) in
    ap (λ l. unanswered profile l) whole
    ∙ unanswered-split profile (take p cells) cell marks held none
    ∙ ap Some (length-take-le p cells (omega arith))
