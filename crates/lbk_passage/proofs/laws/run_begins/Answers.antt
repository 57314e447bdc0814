use Rattle.lbk_passage.proofs.Running.{Given-none}
use Rattle.lbk_passage.proofs.laws.run_begins.Goals as goal

pub returns : goal.returns
returns c = Given-none
