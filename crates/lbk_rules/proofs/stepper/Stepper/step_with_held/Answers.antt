use Rattle.std.proofs.Common.{[], sym, subst, ◌∙◌, arith}
use Rattle.std.proofs.lemmas.List.{length_push}
use Rattle.lbk_uax14.specs.LateFits.{waiting}
use Rattle.lbk_rules.specs.StepperFits.{Holds}
use Rattle.lbk_rules.proofs.RowMachineLemmas.{normals-back, now-told}
use Rattle.lbk_rules.proofs.stepper.Stepper.step_with_held.Goals as goal

pub returns-clause-now : goal.returns-clause-now
returns-clause-now g c = λ profile cell taken more fits.
    c.unless_held.ensures
    ∙ now-told profile cell taken c.args.c more c.step-verdict.result
    (c.step-verdict.ensures.held profile cell taken more fits.machine_fits)
    (c.step-verdict.ensures.decides profile cell taken more fits.machine_fits)

pub returns-clause-fits : goal.returns-clause-fits
returns-clause-fits g c = λ profile cell taken fits few.
    let counted = fits.steps_same in
    let more = length_push taken c.args.c in
    record {
      machine_fits = c.step-verdict.ensures.fits profile cell taken fits.machine_fits;
      steps_same = omega arith;
      held_same = subst (λ s. Holds profile c.holding-self.result (waiting profile s)) (sym (normals-back cell taken c.args.c))
          (c.holding-self.ensures profile cell taken fits
          (c.step-verdict.ensures.held profile cell taken [] fits.machine_fits ∙ sym c.is_15b.ensures));
    }
