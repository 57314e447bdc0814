use Rattle.std.proofs.Common.{◌≡◌, ◌+◌, ◌-◌, ◌*◌, ◌≤◌, length}
use Rattle.lbk_bytes.specs.Steps.{StepsOn}
use Rattle.lbk_bytes.proofs.stepping.sure_run.Given as goal

abbrev pub invariant-taking : goal.invariant-taking
invariant-taking g l = let T = g.T.Target in record {
  steps : StepsOn (T.fits l.target) (T.in_order l.target) (T.reached l.target) l.steps (g.K.KindSource.kinds_of l.kinds) l.text l.stop l.fn.out l.fn.start l.out l.here;
  len : length l.out ≡ length l.fn.out;
  few : l.fn.start.at + (l.here.count - l.fn.start.count) * g.W.Width.least_size ≤ l.here.at;
}

abbrev pub decreases-taking : goal.decreases-taking
decreases-taking g l = length l.text - l.here.at
