use Rattle.lbk_masks.proofs.KeptLemmas.{kept-below}
use Rattle.lbk_masks.proofs.bits.kept_below.Goals as goal

pub returns : goal.returns
returns c = kept-below c.args.bits c.args.count c.requires
