use Rattle.lbk_rules.proofs.FlatLemmas.{flat-step}
use Rattle.lbk_rules.proofs.steps.steps_decide.Goals as goal

pub returns : goal.returns
returns c = flat-step
