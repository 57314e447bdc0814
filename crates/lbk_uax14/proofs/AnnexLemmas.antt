-- The definitions say what the annex's words say.
use Rattle.std.proofs.Common.{◌≡◌, true, false, cond, not, ◌&&◌, ◌||◌, Bool, ◌⊎◌, inl, inr, List, [], ◌∷◌, ◌++◌, length}
use Rattle.std.proofs.Common.{reverse, refl, sym, ap, subst, ◌∙◌, append_assoc, append-nil}
use Rattle.std.proofs.lemmas.Bool.{and_parts, false≢true}
use Rattle.std.specs.List.{AllByRecursion}
use Rattle.std.proofs.lemmas.List.{reverse-append, reverse-reverse}
use Rattle.lbk_uax14.specs.declared.cells.Cell.{Cell}
use Rattle.lbk_uax14.specs.declared.classes.Class.TheVariants.{Space}
use Rattle.lbk_uax14.specs.declared.classes.Quote.{Quote}
use Rattle.lbk_uax14.specs.declared.classes.Quote.TheVariants.{Neither, Initial, Final}
use Rattle.lbk_uax14.specs.Classes.{Set, SP, RI, QU, is, hard, mark, none_of, opens_after, closes_before}
use Rattle.lbk_uax14.specs.Sides.{Side, is_nothing, at, before_spaces, past_spaces, at_odd_run, is_initial, is_final}
use Rattle.lbk_uax14.specs.Sides.{opening, closing, leaves_open, leaves_closed, opens_quotation, closes_quotation}
use Rattle.lbk_uax14.specs.Units.{unit, units, heads, nearest}
use Rattle.lbk_uax14.specs.Facts.{units_before}
use Rattle.lbk_uax14.specs.Annex.{HasNoSpace, EndsInSpacesAfter, EndsInRun, EndsIn, BeginsIn, EndsInOpenQuotation}
use Rattle.lbk_uax14.specs.Annex.{BeginsInClosedQuotation, is_odd, is_head}
use Rattle.lbk_uax14.proofs.FactsLemmas.{QU-apart, units_before-reverse}

-- a list read outwards, its first element last
reverse-cons : (cell : Cell) (cells side : List Cell) → reverse (cell ∷ cells) ++ side ≡ reverse cells ++ (cell ∷ side)
reverse-cons cell cells side =
    ap (λ s. s ++ side) (reverse-append (cell ∷ []) cells) ∙ append_assoc (reverse cells) (cell ∷ []) side

-- what passes over a space passes over all of them
over_all_spaces : {A : Type 0} (f : Side → A)
    → ((cell : Cell) (side : Side) → SP cell.class ≡ true → f (cell ∷ side) ≡ f side)
    → (spaces : List Cell) (side : Side) → AllByRecursion (λ (c : Cell). SP c.class ≡ true) spaces
    → f (reverse spaces ++ side) ≡ f side
over_all_spaces f over [] side all = refl
over_all_spaces f over (cell ∷ spaces) side all =
    ap f (reverse-cons cell spaces side) ∙ over_all_spaces f over spaces (cell ∷ side) all.1 ∙ over cell side all.0

before_spaces-over : (cell : Cell) (side : Side) → SP cell.class ≡ true
    → before_spaces (cell ∷ side) ≡ before_spaces side
unfolding before_spaces
before_spaces-over cell side space = rw space refl

-- what is found past the spaces, read outwards, with spaces found already
found_past : (x : Set) (side : Side) (spaces : List Cell) → HasNoSpace x
    → AllByRecursion (λ (c : Cell). SP c.class ≡ true) spaces
    → past_spaces x side ≡ true → EndsInSpacesAfter x (reverse side ++ spaces)
unfolding before_spaces is
found_past x [] spaces no_space all found = absurd (false≢true (sym (no_space Space refl) ∙ found))
found_past x (cell ∷ side) spaces no_space all found =
    let ends : (b : Bool) → SP cell.class ≡ b → EndsInSpacesAfter x (reverse (cell ∷ side) ++ spaces) = elim [
      | true ↦ λ e. subst (EndsInSpacesAfter x) (sym (reverse-cons cell side spaces))
          (found_past x side (cell ∷ spaces) no_space (e, all) (rw e at found))
      | false ↦ λ e. record {
        before = reverse side;
        cell = cell;
        spaces = spaces;
        joined = reverse-cons cell side spaces;
        of_set = rw e at found;
        all_spaces = all;
      }
    ] in
    ends (SP cell.class) refl

pub ends_in_spaces : (x : Set) (cells : List Cell) → HasNoSpace x → past_spaces x (reverse cells) ≡ true
    → EndsInSpacesAfter x cells
ends_in_spaces x cells no_space found =
    subst (EndsInSpacesAfter x) (append-nil (reverse (reverse cells)) ∙ reverse-reverse cells)
    (found_past x (reverse cells) [] no_space tt found)

pub past_spaces-ends : (x : Set) (cells : List Cell) → HasNoSpace x → EndsInSpacesAfter x cells
    → past_spaces x (reverse cells) ≡ true
unfolding before_spaces
past_spaces-ends x cells no_space ends =
    let outwards : reverse cells ≡ reverse ends.spaces ++ (ends.cell ∷ reverse ends.before) =
    ap reverse ends.joined ∙ reverse-append ends.before (ends.cell ∷ ends.spaces)
    ∙ reverse-cons ends.cell ends.spaces (reverse ends.before) in
    let past : before_spaces (reverse cells) ≡ before_spaces (ends.cell ∷ reverse ends.before) =
    ap before_spaces outwards ∙ over_all_spaces before_spaces before_spaces-over ends.spaces _ ends.all_spaces in
    let here : (b : Bool) → SP ends.cell.class ≡ b → x (before_spaces (ends.cell ∷ reverse ends.before)) ≡ true = elim [
      | true ↦ λ e. absurd (false≢true (sym (no_space ends.cell.class e) ∙ ends.of_set))
      | false ↦ λ e. rw e ends.of_set
    ] in
    ap x past ∙ here (SP ends.cell.class) refl

-- a run read outwards turns the parity as often as it is long
odd_over_run : (run : List Cell) (side : Side) → AllByRecursion (λ (c : Cell). RI c.class ≡ true) run
    → at_odd_run (reverse run ++ side) ≡ (cond (is_odd (length run)) (not (at_odd_run side)) (at_odd_run side))
unfolding at_odd_run
odd_over_run [] side all = refl
odd_over_run (cell ∷ run) side all =
    let turned : at_odd_run (cell ∷ side) ≡ not (at_odd_run side) = rw all.0 refl in
    let twice : (b c : Bool) → cond b (not (not c)) (not c) ≡ cond (not b) (not c) c = elim [
      | true ↦ elim [ true ↦ refl | false ↦ refl ]
      | false ↦ elim [ true ↦ refl | false ↦ refl ]
    ] in
    ap at_odd_run (reverse-cons cell run side) ∙ odd_over_run run (cell ∷ side) all.1
    ∙ ap (λ (b : Bool). cond (is_odd (length run)) (not b) b) turned ∙ twice (is_odd (length run)) (at_odd_run side)

-- what does not end in an indicator ends in a run of none
no_run : (side : Side) → ((rest : List Cell) (cell : Cell) → reverse side ≡ rest ++ cell ∷ [] → RI cell.class ≡ true
    → ⊥) → at_odd_run side ≡ false
unfolding at_odd_run
no_run [] other = refl
no_run (cell ∷ side) other =
    let here : (b : Bool) → RI cell.class ≡ b → at_odd_run (cell ∷ side) ≡ false = elim [
      | true ↦ λ e. absurd (other (reverse side) cell (reverse-append (cell ∷ []) side) e)
      | false ↦ λ e. rw e refl
    ] in
    here (RI cell.class) refl

pub odd_run : (cells run : List Cell) → EndsInRun cells run → at_odd_run (reverse cells) ≡ is_odd (length run)
odd_run cells run ends =
    let outwards : reverse cells ≡ reverse run ++ reverse ends.before = ap reverse ends.joined
    ∙ reverse-append ends.before run in
    let none : at_odd_run (reverse ends.before) ≡ false =
    no_run (reverse ends.before) (λ rest cell joined. ends.longest rest cell (sym (reverse-reverse ends.before)
    ∙ joined)) in
    let parity : (b : Bool) → cond b (not false) false ≡ b = elim [ true ↦ refl | false ↦ refl ] in
    ap at_odd_run outwards ∙ odd_over_run run (reverse ends.before) ends.all_indicators
    ∙ ap (λ (b : Bool). cond (is_odd (length run)) (not b) b) none ∙ parity (is_odd (length run))

-- the test for a head, read outwards
head_outwards : (side : Side) (b : Bool) → (hard (nearest side).class || b) ≡ ((is_nothing side || b) || at hard side)
unfolding is
head_outwards [] b = refl
head_outwards (cell ∷ side) b =
    let either : (a c : Bool) → (a || c) ≡ (c || a) = elim [
      | true ↦ elim [ true ↦ refl | false ↦ refl ]
      | false ↦ elim [ true ↦ refl | false ↦ refl ]
    ] in
    either (hard cell.class) b

pub heads-is_head : (cells : List Cell) (cell : Cell) → heads (reverse cells) cell ≡ is_head cells cell
heads-is_head cells cell = head_outwards (reverse cells) (none_of mark cell.class)

pub units_one_more : (cells : List Cell) (cell : Cell)
    → units (cells ++ cell ∷ []) ≡ cond (is_head cells cell) (units cells ++ unit cell ∷ []) (units cells)
units_one_more cells cell =
    let side = reverse cells in
    let joined : (b : Bool) → reverse (cond b (unit cell ∷ units_before side) (units_before side))
    ≡ cond b (units cells ++ unit cell ∷ []) (units cells) =
    let back : reverse (units_before side) ≡ units cells = ap reverse (units_before-reverse cells)
    ∙ reverse-reverse (units cells) in
    elim [
      | true ↦ reverse-append (unit cell ∷ []) (units_before side) ∙ ap (λ u. u ++ unit cell ∷ []) back
      | false ↦ back
    ] in
    sym (reverse-reverse (units (cells ++ cell ∷ [])))
    ∙ ap reverse (sym (units_before-reverse (cells ++ cell ∷ [])) ∙ ap units_before (reverse-append cells (cell ∷ [])))
    ∙ ap (λ (b : Bool). reverse (cond b (unit cell ∷ units_before side) (units_before side)))
    (head_outwards side (none_of mark cell.class))
    ∙ joined (is_head cells cell)

-- Quotation marks

initial-is : (quote : Quote) → is_initial quote ≡ true → quote ≡ Initial
initial-is Initial _ = refl
initial-is Neither h = absurd (false≢true h)
initial-is Final h = absurd (false≢true h)

final-is : (quote : Quote) → is_final quote ≡ true → quote ≡ Final
final-is Final _ = refl
final-is Neither h = absurd (false≢true h)
final-is Initial h = absurd (false≢true h)

-- what stands before the mark, read outwards
left_open-outwards : (side : Side) → leaves_open side ≡ true → (reverse side ≡ []) ⊎ EndsIn opens_after (reverse side)
left_open-outwards [] h = inl refl
left_open-outwards (cell ∷ side) h =
    inr (record { before = reverse side; cell = cell; joined = reverse-append (cell ∷ []) side; of_set = h })

leaves_open-left : (before : List Cell) → (before ≡ []) ⊎ EndsIn opens_after before
    → leaves_open (reverse before) ≡ true
leaves_open-left before (inl none) = ap (λ l. leaves_open (reverse l)) none
leaves_open-left before (inr ends) =
    ap leaves_open (ap reverse ends.joined ∙ reverse-append ends.before (ends.cell ∷ [])) ∙ ends.of_set

-- an opening mark that is found past the spaces, read outwards, with spaces found already
found_opening : (side : Side) (spaces : List Cell) → AllByRecursion (λ (c : Cell). SP c.class ≡ true) spaces
    → opens_quotation side ≡ true → EndsInOpenQuotation (reverse side ++ spaces)
unfolding opens_quotation
found_opening [] spaces all found = absurd (false≢true found)
found_opening (cell ∷ side) spaces all found =
    let ends : (b : Bool) → SP cell.class ≡ b → EndsInOpenQuotation (reverse (cell ∷ side) ++ spaces) = elim [
      | true ↦ λ e. subst EndsInOpenQuotation (sym (reverse-cons cell side spaces))
          (found_opening side (cell ∷ spaces) (e, all) (rw e at found))
      | false ↦ λ e.
          let here : (opening cell && leaves_open side) ≡ true = rw e at found in
          let parts = and_parts (opening cell) (leaves_open side) here in
          let marks = and_parts (QU cell.class) (is_initial cell.quote) parts.0 in
          record {
            before = reverse side;
            quotation = cell;
            spaces = spaces;
            joined = reverse-cons cell side spaces;
            of_class = marks.0;
            opens = initial-is cell.quote marks.1;
            left_open = left_open-outwards side parts.1;
            all_spaces = all;
          }
    ] in
    ends (SP cell.class) refl

pub ends_in_open_quotation : (cells : List Cell) → opens_quotation (reverse cells) ≡ true → EndsInOpenQuotation cells
ends_in_open_quotation cells found =
    subst EndsInOpenQuotation (append-nil (reverse (reverse cells)) ∙ reverse-reverse cells)
    (found_opening (reverse cells) [] tt found)

opens_quotation-over : (cell : Cell) (side : Side) → SP cell.class ≡ true
    → opens_quotation (cell ∷ side) ≡ opens_quotation side
unfolding opens_quotation
opens_quotation-over cell side space = rw space refl

opens_here : (cell : Cell) (side : Side) → QU cell.class ≡ true → cell.quote ≡ Initial → leaves_open side ≡ true
    → opens_quotation (cell ∷ side) ≡ true
unfolding opens_quotation is
opens_here cell side of_class opens left_open = rw (QU-apart SP refl cell.class of_class, of_class, opens, left_open)

pub opens_quotation-ends : (cells : List Cell) → EndsInOpenQuotation cells → opens_quotation (reverse cells) ≡ true
opens_quotation-ends cells ends =
    ap opens_quotation (ap reverse ends.joined ∙ reverse-append ends.before (ends.quotation ∷ ends.spaces)
    ∙ reverse-cons ends.quotation ends.spaces (reverse ends.before))
    ∙ over_all_spaces opens_quotation opens_quotation-over ends.spaces (ends.quotation ∷ reverse ends.before) ends.all_spaces
    ∙ opens_here ends.quotation (reverse ends.before) ends.of_class ends.opens
    (leaves_open-left ends.before ends.left_open)

left_closed-after : (after : List Cell) → leaves_closed after ≡ true → (after ≡ []) ⊎ BeginsIn closes_before after
left_closed-after [] h = inl refl
left_closed-after (cell ∷ after) h = inr (record { cell = cell; after = after; joined = refl; of_set = h })

leaves_closed-left : (after : List Cell) → (after ≡ []) ⊎ BeginsIn closes_before after → leaves_closed after ≡ true
leaves_closed-left after (inl none) = ap leaves_closed none
leaves_closed-left after (inr begins) = ap leaves_closed begins.joined ∙ begins.of_set

pub begins_in_closed_quotation : (cells : List Cell) → closes_quotation cells ≡ true → BeginsInClosedQuotation cells
begins_in_closed_quotation [] h = absurd (false≢true h)
begins_in_closed_quotation (cell ∷ cells) h =
    let parts = and_parts (closing cell) (leaves_closed cells) h in
    let marks = and_parts (QU cell.class) (is_final cell.quote) parts.0 in
    record {
      quotation = cell;
      after = cells;
      joined = refl;
      of_class = marks.0;
      closes = final-is cell.quote marks.1;
      left_closed = left_closed-after cells parts.1;
    }

closes_here : (cell : Cell) (after : List Cell) → QU cell.class ≡ true → cell.quote ≡ Final → leaves_closed after ≡ true
    → closes_quotation (cell ∷ after) ≡ true
closes_here cell after of_class closes left_closed = rw (of_class, closes, left_closed)

pub closes_quotation-begins : (cells : List Cell) → BeginsInClosedQuotation cells → closes_quotation cells ≡ true
closes_quotation-begins cells begins =
    ap closes_quotation begins.joined
    ∙ closes_here begins.quotation begins.after begins.of_class begins.closes
    (leaves_closed-left begins.after begins.left_closed)
