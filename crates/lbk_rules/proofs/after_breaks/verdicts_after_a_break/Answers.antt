use Rattle.lbk_rules.proofs.RestartLemmas.{between-anew}
use Rattle.lbk_rules.proofs.after_breaks.verdicts_after_a_break.Goals as goal

pub returns : goal.returns
returns c = between-anew
