use Rattle.std.proofs.Common.{◌≡◌, ◌-◌, ◌≤◌, length, take}
use Rattle.lbk_streams.specs.Stands.{front_of}
use Rattle.lbk_streams.proofs.cutting.kept.Given as goal

abbrev pub invariant-loop-kept : goal.invariant-loop-kept
invariant-loop-kept g l = record {
  within : l.kept.size ≤ length l.units;
  front : front_of l.kept ≡ take l.kept.size l.units;
}

abbrev pub decreases-loop-kept : goal.decreases-loop-kept
decreases-loop-kept g l = length l.units - l.kept.size
