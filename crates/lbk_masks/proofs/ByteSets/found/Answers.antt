use Rattle.std.proofs.Common.{◌≡◌, length, min, subst, arith}
use Rattle.lbk_masks.specs.Found.{AreFound}
use Rattle.lbk_masks.proofs.ByteSets.found.Goals as goal

pub loop-at-init : goal.loop-at-init
loop-at-init c =
    let none = c.nothing-found.ensures in
    record { within = omega arith; left = none.left; found = none.found c.args.self.now c.args.text.now }

pub loop-at-preserved : goal.loop-at-preserved
loop-at-preserved c =
    let l = c.loop-at in
    let more = c.further-found.ensures in
    record {
      within = omega arith;
      left = more.left c.args.before;
      found = more.found c.args.before l.at (omega arith) (omega arith) l.invariant.left l.invariant.found;
    }

pub returns : goal.returns
returns c =
    let l = c.loop-at in
    let end = c.min-end.result in
    subst (λ n. AreFound c.args.self.now c.args.before c.args.text.now n c.last.result) (let e : end ≡ min 64 (length c.args.text.now) = omega arith in e)
    (c.last.ensures c.args.before l.at (omega (arith, l.invariant.within)) (omega arith) l.invariant.found)
