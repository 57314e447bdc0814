use Rattle.lbk_uax14.proofs.EndLemmas.{joined_between, mark-not_held, heads-joins, joins_no_break}
use Rattle.lbk_uax14.proofs.laws.joined_mark.Goals as goal

pub returns : goal.returns
returns c = record {
  between = joined_between;
  not_held = mark-not_held;
  headless = heads-joins;
  no_break = joins_no_break;
}
