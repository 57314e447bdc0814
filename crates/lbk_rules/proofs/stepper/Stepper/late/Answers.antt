use Rattle.std.proofs.Common.{◌≡◌, true, ◌∷◌, map, reverse, sym, ap, subst, ◌∙◌}
use Rattle.lbk_uax14.specs.declared.cells.Cell.{Cell}
use Rattle.lbk_uax14.specs.Classes.{closes_before}
use Rattle.lbk_uax14.specs.LateFits.{waiting}
use Rattle.lbk_uax14.specs.Normal.{normal}
use Rattle.lbk_rules.specs.RowMachineFits.{normals}
use Rattle.lbk_rules.specs.StepperFits.{Holds}
use Rattle.lbk_uax14.specs.Units.{heads, unit}
use Rattle.lbk_rules.proofs.HoldsLemmas.{Holds-no_late, head-closes, late-head, late-joins, none-held}
use Rattle.lbk_uax14.proofs.NormalLemmas.{late-normal}
use Rattle.lbk_rules.proofs.stepper.Stepper.late.Goals as goal

pub returns-then-is_none : goal.returns-then-is_none
returns-then-is_none g c = λ profile cell taken more fits.
    let waits = waiting profile (reverse (normals cell taken)) in
    let none = none-held c.args.self.held c.is_none.result c.is_none.ensures c.if-is_none.true in
    Holds-no_late profile (normals cell taken) (normal (cell c.args.c)) (map normal more)
    (subst (λ h. Holds profile h waits) none fits.held_same)
    ∙ late-normal profile (map cell taken) (cell c.args.c) more

pub returns-then-not-heads : goal.returns-then-not-heads
returns-then-not-heads g c = λ profile cell taken more fits.
    let side = reverse (normals cell taken) in
    let same = c.cell-cell.ensures profile cell taken fits.machine_fits in
    let known = c.left.ensures profile cell taken fits.machine_fits in
    late-joins profile (normals cell taken) (normal (cell c.args.c)) (map normal more)
    (sym (c.heads.ensures side known ∙ ap (λ u. heads side u) same) ∙ c.if-not-heads.true)
    ∙ late-normal profile (map cell taken) (cell c.args.c) more

pub returns : goal.returns
returns g c = λ profile cell taken more fits.
    let side = reverse (normals cell taken) in
    let q = normal (cell c.args.c) in
    let same = c.cell-cell.ensures profile cell taken fits.machine_fits in
    let known = c.left.ensures profile cell taken fits.machine_fits in
    let head : heads side q ≡ true = sym (c.heads.ensures side known ∙ ap (λ u. heads side u) same) ∙ c.if-not-heads.false in
    let closes : closes_before (unit q).class ≡ c.closes_before.result =
    sym (c.closes_before.ensures ∙ ap (λ (u : Cell). closes_before u.class) (c.unit.ensures ∙ ap unit same)) in
    c.answer.ensures profile cell taken (q ∷ map normal more) fits (head-closes side q (map normal more) head ∙ closes)
    ∙ late-head profile (normals cell taken) q (map normal more) head
    ∙ late-normal profile (map cell taken) (cell c.args.c) more
