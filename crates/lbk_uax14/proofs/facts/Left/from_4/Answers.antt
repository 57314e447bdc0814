-- Where no rule over cells decides, the rules over units do.
use Rattle.std.proofs.Common.{◌≡◌, Bool, true, false, ◌&&◌, not, ◌∷◌, refl, sym, ap, ◌∙◌}
use Rattle.lbk_uax14.specs.Chain.{from_11}
use Rattle.lbk_uax14.specs.Classes.{CR, LF, hard, mark, none_of}
use Rattle.lbk_uax14.specs.Facts.{units_before}
use Rattle.lbk_uax14.specs.Units.{units}
use Rattle.lbk_uax14.proofs.FactsLemmas.{no_cell_rule}
use Rattle.lbk_uax14.proofs.facts.Left.from_4.Goals as goal
use Rattle.lbk_uax14.proofs.facts.Left.from_4.Goals.{else-is-2-via-then-is-2+else-is-3, else-is-2-via-else-is-2}
use Rattle.lbk_uax14.proofs.facts.Left.from_4.Goals.{else-is_mark-via-then-is_mark+else-not-is_hard}
use Rattle.lbk_uax14.proofs.facts.Left.from_4.Goals.{else-is_mark-via-else-is_mark}

and_none : (a : Bool) → (a && false) ≡ false
and_none true = refl
and_none false = refl

pub returns : goal.returns
returns c = λ cell side more e past closes.
    let last = c.args.self.last in
    let right = c.args.right in
    let within_line_end : (CR last && LF right.class) ≡ false =
    elim c.else-is-2.branch [
      | else-is-2-via-then-is-2+else-is-3 w ↦
          ap (λ a. a && LF right.class) (sym c.is-2.ensures ∙ w.if-is-2.true) ∙ sym w.is-then-is-2.ensures
          ∙ w.if-is-3.false
      | else-is-2-via-else-is-2 w ↦ ap (λ a. a && LF right.class) (sym c.is-2.ensures ∙ w.if-is-2.false)
    ] in
    let joins : (none_of hard last && mark right.class) ≡ false =
    elim c.else-is_mark.branch [
      | else-is_mark-via-then-is_mark+else-not-is_hard w ↦
          ap (λ a. not a && mark right.class) (sym w.is_hard.ensures ∙ w.if-not-is_hard.false)
      | else-is_mark-via-else-is_mark w ↦
          ap (λ b. none_of hard last && b) (sym c.is_mark.ensures ∙ w.if-is_mark.false) ∙ and_none (none_of hard last)
    ] in
    c.over_units.ensures cell side more e closes
    ∙ sym (no_cell_rule last (cell ∷ side) right more
    (from_11 c.args.profile (units_before (cell ∷ side)) (units (right ∷ more)))
    (sym c.is.ensures ∙ c.if-is.false) within_line_end (sym c.ends_line.ensures ∙ c.if-ends_line.false)
    (sym c.ends_line-2.ensures ∙ c.if-ends_line-2.false) (sym c.is_space.ensures ∙ c.if-is_space.false)
    (past ∙ c.if-self.false) (sym c.is-3.ensures ∙ c.if-is-4.false) joins)
