use Rattle.lbk_masks.proofs.KeptLemmas.{are-cleared}
use Rattle.lbk_masks.proofs.bits.without_first.Goals as goal

pub returns-clause-cleared : goal.returns-clause-cleared
returns-clause-cleared c = λ index few lowest. are-cleared c.args.bits index c.requires few lowest
