use Rattle.lbk_bytes.specs.Steps.{StepsOn}
use Rattle.std.proofs.Common.{◌-◌, length}
use Rattle.lbk_bytes.proofs.stepping.run.Given as goal

abbrev pub invariant-taking : goal.invariant-taking
invariant-taking g l = let T = g.T.Target in
    StepsOn (T.fits l.target) (T.in_order l.target) (T.reached l.target) l.steps (g.K.KindSource.kinds_of l.kinds) l.text l.stop l.fn.out l.fn.start l.out l.here

abbrev pub decreases-taking : goal.decreases-taking
decreases-taking g l = length l.text - l.here.at
