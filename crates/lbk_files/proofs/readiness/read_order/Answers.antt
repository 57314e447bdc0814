use Rattle.std.proofs.Common.{◌≡◌, ◌∙◌, Some, sym}
use Rattle.lbk_args.specs.Task.{Task}
use Rattle.lbk_files.proofs.readiness.read_order.Goals as goal

some_same : (s t : Task) → Some s ≡ Some t → s ≡ t
some_same s t e = cc

pub returns-in-Ok-clause-accepted : goal.returns-in-Ok-clause-accepted
returns-in-Ok-clause-accepted c task accepted asks = some_same _ _ (sym c.in-Ok.ensures.task ∙ asks)

pub returns-in-Err-Help-clause-plain : goal.returns-in-Err-Help-clause-plain
returns-in-Err-Help-clause-plain c task plain = let other = c.in-Err-Help.ensures.plain task plain in absurd (cc other)

pub returns-in-Err-Usage-clause-plain : goal.returns-in-Err-Usage-clause-plain
returns-in-Err-Usage-clause-plain c task plain = let other = c.in-Err-Usage.ensures.plain task plain in
    absurd (cc other)
