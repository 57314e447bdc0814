use Rattle.lbk_calls.proofs.ComingLemmas.{breaks-utf8}
use Rattle.lbk_calls.proofs.breaking.lbk_breaks.Goals as goal

pub returns-clause-well_formed : goal.returns-clause-well_formed
returns-clause-well_formed c = λ cell profile. breaks-utf8 profile cell c.args.text.now
