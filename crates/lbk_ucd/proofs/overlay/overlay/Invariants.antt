use Rattle.std.proofs.Common.{◌-◌, ◌<◌, ◌≤◌, length}
use Rattle.std.specs.List.{AllWithin}
use Rattle.lbk_ucd.proofs.OverlayLemmas.{IsDone}
use Rattle.lbk_ucd.proofs.overlay.overlay.Given as goal

abbrev pub invariant-loop-from : goal.invariant-loop-from
invariant-loop-from g l = record {
  low : l.low ≤ length l.under.rows.now;
  under : AllWithin (λ row. row.last < l.from) l.under.rows.now 0 l.low;
  high : l.high ≤ length l.over.rows.now;
  over : AllWithin (λ row. row.last < l.from) l.over.rows.now 0 l.high;
  most : l.from ≤ 0x110000;
  done : IsDone l.under.rows.now l.over.rows.now l.rows.items l.from;
}

abbrev pub decreases-loop-from : goal.decreases-loop-from
decreases-loop-from g l = 0x110000 - l.from
