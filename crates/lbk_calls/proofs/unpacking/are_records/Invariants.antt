use Rattle.std.proofs.Common.{◌-◌, length}
use Rattle.lbk_calls.proofs.PackingLemmas.{IsMatching}
use Rattle.lbk_calls.proofs.unpacking.are_records.Given as goal

abbrev pub invariant-loop-at : goal.invariant-loop-at
invariant-loop-at l = IsMatching l.kinds l.bytes l.at l.left

abbrev pub decreases-loop-at : goal.decreases-loop-at
decreases-loop-at l = length l.kinds - l.at
