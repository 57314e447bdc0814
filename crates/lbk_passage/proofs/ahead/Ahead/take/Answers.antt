use Rattle.std.proofs.Common.{subst, arith}
use Rattle.lbk_passage.specs.Ahead.{HasAhead}
use Rattle.lbk_passage.proofs.AheadLemmas.{TakesBy-counted, first-few}
use Rattle.lbk_passage.proofs.ahead.Ahead.take.Goals as goal

pub overflow_add-last : goal.overflow_add-last
overflow_add-last c = omega (arith, first-few c.requires.2 c.requires.3, c.requires.2.within)

pub offset_bounds-self-self : goal.offset_bounds-self-self
offset_bounds-self-self c = omega (arith, first-few c.requires.2 c.requires.3, c.requires.2.within)

pub bounds-self-self : goal.bounds-self-self
bounds-self-self c = omega (arith, first-few c.requires.2 c.requires.3, c.requires.2.within)

pub overflow_add-self : goal.overflow_add-self
overflow_add-self c = omega (arith, first-few c.requires.2 c.requires.3, c.requires.2.within)

pub overflow_sub-self : goal.overflow_sub-self
overflow_sub-self c = omega (arith, first-few c.requires.2 c.requires.3, c.requires.2.within)

pub returns : goal.returns
returns c = (
  c.if-limit-len.false,
  λ found len h e.
      TakesBy-counted e.front e.last e.rest (subst (HasAhead c.args.self.now) e.all h) c.args.count e.counted e.none e.must _,
)
