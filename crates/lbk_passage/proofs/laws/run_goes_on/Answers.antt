use Rattle.lbk_passage.proofs.Running.{Given-further}
use Rattle.lbk_passage.proofs.laws.run_goes_on.Goals as goal

pub returns : goal.returns
returns c = λ s given. Given-further s given
