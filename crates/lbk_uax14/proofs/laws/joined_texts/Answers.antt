use Rattle.lbk_uax14.proofs.JoinLemmas.{joined-breaks, joined-marks}
use Rattle.lbk_uax14.proofs.laws.joined_texts.Goals as goal

pub returns : goal.returns
returns c = record {
  marks = joined-marks;
  breaks = joined-breaks;
}
