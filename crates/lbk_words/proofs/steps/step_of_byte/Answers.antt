use Rattle.std.proofs.Common.{subst}
use Rattle.lbk_words.specs.Rows.{IsStep}
use Rattle.lbk_words.proofs.steps.step_of_byte.Goals as goal

pub returns : goal.returns
returns c = λ quiet far. subst (λ code. IsStep c.args.row code far c.step_unasked.result) c.from.ensures (c.step_unasked.ensures quiet far)
