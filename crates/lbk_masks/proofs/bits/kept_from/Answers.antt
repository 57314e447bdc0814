use Rattle.lbk_masks.proofs.KeptLemmas.{kept-from}
use Rattle.lbk_masks.proofs.bits.kept_from.Goals as goal

pub returns : goal.returns
returns c = kept-from c.args.bits c.args.first c.requires
