use Rattle.std.proofs.Common.{◌-◌, ◌≤◌}
use Rattle.lbk_passage.specs.Flags.{AreCalm}
use Rattle.lbk_passage.proofs.reach.past_calm.Given as goal

abbrev pub invariant-loop-at : goal.invariant-loop-at
invariant-loop-at g l = record {
  onward : l.start ≤ l.at;
  within : l.at ≤ l.most;
  calm : AreCalm (g.C.CellSource.cell_of l.known.cells.now) l.piece l.start l.at;
}

abbrev pub decreases-loop-at : goal.decreases-loop-at
decreases-loop-at g l = l.most - l.at
