use Rattle.lbk_passage.proofs.Running.{Given-all, Given-stopped}
use Rattle.lbk_passage.proofs.laws.run_ends.Goals as goal

pub returns-clause-whole : goal.returns-clause-whole
returns-clause-whole c = Given-all

pub returns-clause-stopped : goal.returns-clause-stopped
returns-clause-stopped c = λ s fault given unread stops. Given-stopped s given fault unread stops
