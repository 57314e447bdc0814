use Rattle.std.proofs.Common.{◌-◌, length}
use Rattle.lbk_bytes.specs.Marking.{MarksOn}
use Rattle.lbk_bytes.proofs.mark_blocks.mark_block.Given as goal

abbrev pub invariant-loop-here : goal.invariant-loop-here
invariant-loop-here g l = MarksOn (g.K.KindSource.kinds_of l.table) (g.K.KindSource.pairs_of l.table) l.steps l.text l.from l.fn.words l.fn.start l.words l.here

abbrev pub decreases-loop-here : goal.decreases-loop-here
decreases-loop-here g l = length l.text - l.here.at
