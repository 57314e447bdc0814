use Rattle.lbk_feed.proofs.Judged.{judged-nil}
use Rattle.lbk_feed.proofs.intake.Intake.new.Goals as goal

pub invariant_of-result : goal.invariant_of-result
invariant_of-result c = record { judged = judged-nil _ c.new.ensures.items }
