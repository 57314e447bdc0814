use Rattle.lbk_uax14.proofs.JoinLemmas.{joined-breaks_of_parts, joined-marks_of_parts}
use Rattle.lbk_uax14.proofs.laws.joined_parts.Goals as goal

pub returns : goal.returns
returns c = record {
  marks = joined-marks_of_parts;
  breaks = joined-breaks_of_parts;
}
