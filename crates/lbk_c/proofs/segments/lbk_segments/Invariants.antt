use Rattle.std.proofs.Common.{◌≡◌, ◌-◌, length}
use Rattle.lbk_c.proofs.SegmentLemmas.{IsPut}
use Rattle.lbk_c.proofs.segments.lbk_segments.Given as goal

abbrev pub invariant-loop-block : goal.invariant-loop-block
invariant-loop-block l = record { block : length l.block ≡ 64; put : IsPut l.table.kinds l.table.pairs l.text l.fn.state l.state l.out l.count }

abbrev pub decreases-loop-block : goal.decreases-loop-block
decreases-loop-block l = length l.out - l.count
