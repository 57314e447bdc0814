use Rattle.std.proofs.Common.{◌-◌, length}
use Rattle.lbk_bytes.specs.Roomy.{BreaksOn}
use Rattle.lbk_bytes.proofs.roomy.roomy.Given as goal

abbrev pub invariant-loop-here : goal.invariant-loop-here
invariant-loop-here g l =
    BreaksOn l.steps (g.K.KindSource.kinds_of l.kinds) l.text l.stop l.fn.out l.fn.start l.out l.here

abbrev pub decreases-loop-here : goal.decreases-loop-here
decreases-loop-here g l = length l.text - l.here.at
