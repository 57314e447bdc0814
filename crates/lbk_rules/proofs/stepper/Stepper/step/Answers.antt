use Rattle.std.proofs.Common.{◌≡◌, false, cond, Some, None, [], ◌∷◌, ◌++◌, map, reverse, sym, ap, subst, ◌∙◌, arith}
use Rattle.std.proofs.lemmas.List.{length_push}
use Rattle.lbk_uax14.specs.Held.{is_15b}
use Rattle.lbk_uax14.specs.LateFits.{waiting}
use Rattle.lbk_uax14.specs.Normal.{normal}
use Rattle.lbk_rules.specs.RowMachineFits.{normals}
use Rattle.lbk_rules.specs.StepperFits.{Holds}
use Rattle.lbk_rules.proofs.HoldsLemmas.{Holds-calm, Holds-no_late, none-held}
use Rattle.lbk_uax14.proofs.NormalLemmas.{late-normal}
use Rattle.lbk_rules.proofs.RowMachineLemmas.{held-chain-normal, normals-back, now-told}
use Rattle.lbk_rules.proofs.stepper.Stepper.step.Goals as goal

pub returns-then-not-is_15b-clause-now : goal.returns-then-not-is_15b-clause-now
returns-then-not-is_15b-clause-now g c = λ profile cell taken more fits few.
    let verdict = c.step-verdict.result in
    let settled : is_15b verdict.rule ≡ false = sym c.is_15b.ensures ∙ c.if-not-is_15b.true in
    sym (ap (λ v. cond v None (Some verdict)) settled)
    ∙ now-told profile cell taken c.args.c more verdict
    (c.step-verdict.ensures.held profile cell taken more fits.machine_fits)
    (c.step-verdict.ensures.decides profile cell taken more fits.machine_fits)

pub returns-then-not-is_15b-clause-late : goal.returns-then-not-is_15b-clause-late
returns-then-not-is_15b-clause-late g c = λ profile cell taken more fits few.
    let waits = waiting profile (reverse (normals cell taken)) in
    let none = none-held c.args.self.now.held c.is_none.result c.is_none.ensures c.if-is_none.true in
    Holds-no_late profile (normals cell taken) (normal (cell c.args.c)) (map normal more)
    (subst (λ h. Holds profile h waits) none fits.held_same)
    ∙ late-normal profile (map cell taken) (cell c.args.c) more

pub returns-then-not-is_15b-clause-fits : goal.returns-then-not-is_15b-clause-fits
returns-then-not-is_15b-clause-fits g c = λ profile cell taken fits few.
    let side = reverse (normals cell taken) in
    let counted = fits.steps_same in
    let more = length_push taken c.args.c in
    let none = none-held c.args.self.now.held c.is_none.result c.is_none.ensures c.if-is_none.true in
    let settled = held-chain-normal profile cell taken c.args.c
    ∙ c.step-verdict.ensures.held profile cell taken [] fits.machine_fits
    ∙ sym c.is_15b.ensures ∙ c.if-not-is_15b.true in
    let calm = Holds-calm profile side (normal (cell c.args.c)) settled
    (subst (λ h. Holds profile h (waiting profile side)) none fits.held_same) in
    record {
      machine_fits = c.step-verdict.ensures.fits profile cell taken fits.machine_fits;
      steps_same = omega arith;
      held_same = subst (λ h. Holds profile h (waiting profile (reverse (normals cell (taken ++ c.args.c ∷ []))))) (sym none)
          (subst (λ s. Holds profile None (waiting profile s)) (sym (normals-back cell taken c.args.c)) calm);
    }
