use Rattle.std.proofs.Common.{◌-◌, length}
use Rattle.lbk_bytes.specs.Steps.{FillsOn}
use Rattle.lbk_bytes.proofs.blocks.block.Given as goal

abbrev pub invariant-loop-here : goal.invariant-loop-here
invariant-loop-here g l = FillsOn l.steps (g.K.KindSource.kinds_of l.kinds) (g.K.KindSource.pairs_of l.kinds) l.text l.fn.out l.fn.start l.out l.here

abbrev pub decreases-loop-here : goal.decreases-loop-here
decreases-loop-here g l = length l.text - l.here.at
