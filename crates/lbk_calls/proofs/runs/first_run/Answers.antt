use Rattle.std.proofs.Common.{get_or, arith}
use Rattle.lbk_calls.proofs.RunsLemmas.{runs_of-first}
use Rattle.lbk_calls.proofs.runs.first_run.Goals as goal

pub returns-else-kinds-length-clause-first : goal.returns-else-kinds-length-clause-first
returns-else-kinds-length-clause-first c =
    runs_of-first (get_or c.args.kinds.now 0 0) c.loop-length.length c.args.kinds.now c.loop-length.invariant.some
    c.loop-length.invariant.within c.loop-length.invariant.same (λ more. c.if-kinds-length.false)

pub returns-after-loop-length-clause-first : goal.returns-after-loop-length-clause-first
returns-after-loop-length-clause-first c =
    runs_of-first (get_or c.args.kinds.now 0 0) c.loop-length.length c.args.kinds.now c.loop-length.invariant.some
    c.loop-length.invariant.within c.loop-length.invariant.same (λ more. absurd (omega arith))
