use Rattle.std.proofs.Common.{refl}
use Rattle.lbk_uax14.specs.LateFits.{waiting}
use Rattle.lbk_rules.proofs.stepper.Stepper.start.Goals as goal

pub returns : goal.returns
unfolding waiting
returns g c = record { machine_fits = c.start.ensures; steps_same = refl; held_same = tt }
