use Rattle.std.proofs.Common.{◌-◌, length}
use Rattle.lbk_passage.specs.Flags.{Passes}
use Rattle.lbk_passage.proofs.reach.reach_in.Given as goal

abbrev pub invariant-loop-c : goal.invariant-loop-c
invariant-loop-c g l = Passes (g.C.CellSource.cell_of l.known.cells.now) l.fn.last l.piece l.room l.here.len l.here.last

abbrev pub decreases-loop-c : goal.decreases-loop-c
decreases-loop-c g l = length l.piece - l.here.len
