use Rattle.lbk_c.proofs.AfterLemmas.{after-break}
use Rattle.lbk_c.proofs.laws.breaks_after_a_break.Goals as goal

pub returns : goal.returns
returns c = after-break
