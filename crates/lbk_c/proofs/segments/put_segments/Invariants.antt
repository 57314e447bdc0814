use Rattle.std.proofs.Common.{◌≡◌, ◌+◌, ◌-◌, ◌≤◌, ◌++◌, length, take}
use Rattle.lbk_c.specs.Segments.{next_start, segments_between}
use Rattle.lbk_c.proofs.segments.put_segments.Given as goal

abbrev pub invariant-loop-k : goal.invariant-loop-k
invariant-loop-k l = record {
  within : l.k ≤ length l.breaks;
  front : take (l.from + l.k) l.out ≡ take l.from l.fn.out ++ segments_between l.fn.start (take l.k l.breaks);
  next : l.start ≡ next_start l.fn.start (take l.k l.breaks);
}

abbrev pub decreases-loop-k : goal.decreases-loop-k
decreases-loop-k l = length l.breaks - l.k
