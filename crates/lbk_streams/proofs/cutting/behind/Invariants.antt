use Rattle.std.proofs.Common.{◌≡◌, ◌+◌, ◌-◌, ◌≤◌, drop}
use Rattle.lbk_streams.specs.Stands.{front_of}
use Rattle.lbk_streams.proofs.cutting.behind.Given as goal

abbrev pub invariant-loop-left : goal.invariant-loop-left
invariant-loop-left g l = record {
  within : l.left.size ≤ l.fn.cut.size;
  few : l.fn.cut.size ≤ l.left.size + l.size;
  front : front_of l.left ≡ drop (l.fn.cut.size - l.left.size) (front_of l.fn.cut);
}

abbrev pub decreases-loop-left : goal.decreases-loop-left
decreases-loop-left g l = l.left.size
