use Rattle.lbk_cmd.proofs.Headlines.{headline, headline_only}
use Rattle.lbk_cmd.proofs.laws.headline.Goals as goal

pub returns-clause-holds : goal.returns-clause-holds
returns-clause-holds c = headline

pub returns-clause-only : goal.returns-clause-only
returns-clause-only c = headline_only
