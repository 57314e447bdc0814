use Rattle.std.proofs.Common.{length, ◌-◌, ◌≡◌, ◌<◌, ◌≤◌, replicate, take, get_or}
use Rattle.lbk_calls.proofs.runs.first_run.Given as goal

abbrev pub invariant-loop-length : goal.invariant-loop-length
invariant-loop-length l = record {
  some : 0 < l.length;
  within : l.length ≤ length l.kinds;
  kind : l.kind ≡ get_or l.kinds 0 0;
  same : take l.length l.kinds ≡ replicate l.length l.kind;
}

abbrev pub decreases-loop-length : goal.decreases-loop-length
decreases-loop-length l = length l.kinds - l.length
