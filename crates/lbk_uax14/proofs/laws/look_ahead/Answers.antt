use Rattle.lbk_uax14.proofs.LookAheadLemmas.{look_ahead_at, look_ahead_between}
use Rattle.lbk_uax14.proofs.laws.look_ahead.Goals as goal

pub returns : goal.returns
returns c = record {
  at = look_ahead_at;
  between = look_ahead_between;
}
