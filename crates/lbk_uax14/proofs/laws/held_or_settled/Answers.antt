use Rattle.lbk_uax14.proofs.CoverLemmas.{held-heads}
use Rattle.lbk_uax14.proofs.EndLemmas.{settled_between}
use Rattle.lbk_uax14.proofs.laws.held_or_settled.Goals as goal

pub returns : goal.returns
returns c = record {
  settled = settled_between;
  headed = held-heads;
}
