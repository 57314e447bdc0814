use Rattle.std.proofs.Common.{◌-◌, ◌≤◌, length}
use Rattle.lbk_bytes.specs.Steps.{FillsIn}
use Rattle.lbk_bytes.proofs.filling.fill_common.Given as goal

abbrev pub invariant-loop-part : goal.invariant-loop-part
invariant-loop-part g l = record {
  until : l.part.until ≤ length l.text;
  fills : FillsIn l.fn.profile (g.K.KindSource.kinds_of l.table) (g.K.KindSource.pairs_of l.table) l.text l.fn.out l.fn.start l.out l.part.here;
}

abbrev pub decreases-loop-part : goal.decreases-loop-part
decreases-loop-part g l = length l.text - l.part.until
