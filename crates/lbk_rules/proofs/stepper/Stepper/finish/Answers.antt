use Rattle.std.proofs.Common.{[], map, refl, ◌∙◌}
use Rattle.lbk_uax14.proofs.NormalLemmas.{answer-normal}
use Rattle.lbk_rules.proofs.stepper.Stepper.finish.Goals as goal

pub returns-clause-late : goal.returns-clause-late
returns-clause-late g c = λ profile cell taken fits.
    c.answer.ensures profile cell taken [] fits refl ∙ answer-normal profile (map cell taken) []

pub returns-clause-end : goal.returns-clause-end
returns-clause-end g c = λ profile cell taken fits.
    c.finish.ensures profile cell taken fits.machine_fits
