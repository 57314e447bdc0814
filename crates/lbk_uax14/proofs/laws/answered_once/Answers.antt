use Rattle.std.proofs.Common.{[]}
use Rattle.lbk_uax14.proofs.StepLemmas.{step_once, end_once, unanswered-first, now_at-first}
use Rattle.lbk_uax14.proofs.laws.answered_once.Goals as goal

pub returns : goal.returns
returns c = record {
  step = step_once;
  end = λ profile cells. end_once profile cells [];
  first = λ cells right. (unanswered-first cells, now_at-first cells right);
}
