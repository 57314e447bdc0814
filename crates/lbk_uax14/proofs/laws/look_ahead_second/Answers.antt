use Rattle.lbk_values.specs.declared.profile.Profile.TheVariants.{Second}
use Rattle.lbk_uax14.proofs.LookAheadLemmas.{look_ahead_as_far, look_ahead_between_in}
use Rattle.lbk_uax14.proofs.laws.look_ahead_second.Goals as goal

pub returns : goal.returns
returns c = record {
  at = look_ahead_as_far;
  between = look_ahead_between_in Second;
}
