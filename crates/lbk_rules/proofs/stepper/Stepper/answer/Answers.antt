use Rattle.std.proofs.Common.{Some, reverse, refl, ap, subst, ◌∙◌}
use Rattle.lbk_uax14.specs.LateFits.{waiting}
use Rattle.lbk_rules.specs.RowMachineFits.{normals}
use Rattle.lbk_rules.specs.StepperFits.{Holds}
use Rattle.lbk_rules.proofs.HoldsLemmas.{Holds-answer, Holds-none}
use Rattle.lbk_uax14.proofs.WaitingLemmas.{answer-none}
use Rattle.lbk_rules.proofs.stepper.Stepper.answer.Goals as goal

pub returns-in-None : goal.returns-in-None
returns-in-None g c = λ profile cell taken more fits closed.
    let waits = waiting profile (reverse (normals cell taken)) in
    answer-none profile (normals cell taken) more
    (Holds-none profile waits (subst (λ h. Holds profile h waits) c.in-None.is fits.held_same))

pub returns-in-Some : goal.returns-in-Some
returns-in-Some g c = λ profile cell taken more fits closed.
    let waits = waiting profile (reverse (normals cell taken)) in
    ap Some c.answer.ensures
    ∙ Holds-answer profile (normals cell taken) more c.in-Some.held c.args.closes waits refl
    (subst (λ h. Holds profile h waits) c.in-Some.is fits.held_same) closed
