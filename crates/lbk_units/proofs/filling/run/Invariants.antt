use Rattle.std.proofs.Common.{◌-◌, length}
use Rattle.lbk_units.specs.Filling.{RunsOn}
use Rattle.lbk_units.proofs.filling.run.Given as goal

abbrev pub invariant-loop-count : goal.invariant-loop-count
invariant-loop-count g l =
    RunsOn g.T.Target.entry g.T.Target.onward g.U.Unit.pieces_of (g.K.KindSource.kinds_of l.kinds) l.steps l.text l.fn.out l.fn.start l.out
    (record { count = l.count; row = l.row; at = l.at })

abbrev pub decreases-loop-count : goal.decreases-loop-count
decreases-loop-count g l = length l.text - l.at
