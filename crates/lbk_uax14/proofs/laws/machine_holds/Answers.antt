use Rattle.lbk_uax14.proofs.StepLemmas.{held_position-fits}
use Rattle.lbk_uax14.proofs.laws.machine_holds.Goals as goal

pub returns : goal.returns
returns c = held_position-fits
