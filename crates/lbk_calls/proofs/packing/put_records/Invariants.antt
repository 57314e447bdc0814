use Rattle.std.proofs.Common.{length, ◌-◌}
use Rattle.lbk_calls.proofs.PackingLemmas.{IsPutting}
use Rattle.lbk_calls.proofs.packing.put_records.Given as goal

abbrev pub invariant-loop-at : goal.invariant-loop-at
invariant-loop-at l = IsPutting l.kinds l.fn.bytes l.at l.size l.bytes

abbrev pub decreases-loop-at : goal.decreases-loop-at
decreases-loop-at l = length l.kinds - l.at
