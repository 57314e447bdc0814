use Rattle.std.proofs.Common.{◌-◌, ◌<◌, ◌≤◌, length}
use Rattle.lbk_units.specs.Filling.{RunsOn}
use Rattle.lbk_units.proofs.alone.run_mixed.Given as goal

abbrev pub invariant-loop-out : goal.invariant-loop-out
invariant-loop-out g l = record {
  runs : RunsOn g.T.Target.entry g.T.Target.onward g.U.Unit.pieces_of (g.K.KindSource.kinds_of l.kinds) l.steps l.text l.fn.out l.fn.start l.out l.here;
  some : 0 < l.some;
  few : l.some ≤ 2048;
}

abbrev pub decreases-loop-out : goal.decreases-loop-out
decreases-loop-out g l = length l.text - l.here.at
