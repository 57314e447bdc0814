use Rattle.std.proofs.Common.{◌-◌, ◌<◌, ◌≤◌, length}
use Rattle.std.specs.List.{AllWithin}
use Rattle.lbk_ucd.proofs.ranges.InOrder.next_from.Given as goal

abbrev pub invariant-loop-next : goal.invariant-loop-next
invariant-loop-next g l = record {
  within : l.next ≤ length l.rows;
  before : AllWithin (λ row. row.last < l.code) l.rows 0 l.next;
}

abbrev pub decreases-loop-next : goal.decreases-loop-next
decreases-loop-next g l = length l.rows - l.next
