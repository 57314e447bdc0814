use Rattle.lbk_uax14.proofs.EndLemmas.{same_before, same_before_at}
use Rattle.lbk_uax14.proofs.laws.before_line_end.Goals as goal

pub returns : goal.returns
returns c = record {
  between = same_before;
  at = same_before_at;
}
