use Rattle.std.proofs.Common.{length}
use Rattle.lbk_calls.proofs.FillingLemmas.{IsFilling}
use Rattle.lbk_calls.proofs.unpacking.fill_runs.Given as goal

abbrev pub invariant-loop-run : goal.invariant-loop-run
invariant-loop-run l = IsFilling l.fn.records l.fn.kinds l.rest l.kinds l.at

abbrev pub decreases-loop-run : goal.decreases-loop-run
decreases-loop-run l = length l.rest
