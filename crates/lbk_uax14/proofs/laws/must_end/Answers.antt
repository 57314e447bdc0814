use Rattle.lbk_uax14.proofs.EndLemmas.{must_between, only_must_between, must-not_held, start_of_text}
use Rattle.lbk_uax14.proofs.laws.must_end.Goals as goal

pub returns : goal.returns
returns c = record {
  there = must_between;
  there_alone = only_must_between;
  not_held = must-not_held;
  not_at_start = start_of_text;
}
