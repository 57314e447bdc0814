use Rattle.std.proofs.Common.{length, ap}
use Rattle.lbk_feed.specs.Intake.{view_of}
use Rattle.lbk_feed.proofs.Judged.{judged-spent}
use Rattle.lbk_feed.proofs.intake.Intake.finish.Goals as goal

pub invariant_of-self : goal.invariant_of-self
unfolding view_of
invariant_of-self c =
    let i = c.args.self.now in record { judged = judged-spent _ _ _ _ _ i.judged (ap length c.in-Some.ensures.lies.0) }
