use Rattle.lbk_masks.proofs.WordLemmas.{marked-joined}
use Rattle.lbk_masks.proofs.bits.join.Goals as goal

pub returns : goal.returns
returns c = λ i. marked-joined c.args.words.now c.args.word i c.args.bits c.requires
