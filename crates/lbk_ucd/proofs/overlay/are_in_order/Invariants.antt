use Rattle.std.proofs.Common.{ℕ, ◌<◌, get_or}
use Rattle.lbk_ucd.specs.declared.ranges.Row.{Row}
use Rattle.lbk_ucd.proofs.overlay.are_in_order.Given as goal

abbrev pub invariant-loop-next : goal.invariant-loop-next
invariant-loop-next g l = (i j : ℕ) (d : Row g.row.V.Denot) → i < j → j < l.next → (get_or l.rows i d).last < (get_or l.rows j d).first
