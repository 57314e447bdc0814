use Rattle.std.proofs.Common.{◌+◌, ◌-◌, ◌≤◌, length}
use Rattle.lbk_units.specs.Filling.{RunsOn}
use Rattle.lbk_units.proofs.alone.run_alone.Given as goal

abbrev pub invariant-loop-at : goal.invariant-loop-at
invariant-loop-at g l = record {
  runs : RunsOn g.T.Target.entry g.T.Target.onward g.U.Unit.pieces_of (g.K.KindSource.kinds_of l.kinds) l.steps l.text l.fn.out l.fn.start l.out (record { count = l.count; row = l.row; at = l.at });
  room : l.count + l.end ≤ length l.out + l.at;
}

abbrev pub decreases-loop-at : goal.decreases-loop-at
decreases-loop-at g l = l.end - l.at
