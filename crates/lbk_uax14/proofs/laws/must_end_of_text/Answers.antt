use Rattle.lbk_uax14.proofs.EndLemmas.{must_at_end, must_at_length}
use Rattle.lbk_uax14.proofs.laws.must_end_of_text.Goals as goal

pub returns : goal.returns
returns c = record {
  between = must_at_end;
  at = must_at_length;
}
