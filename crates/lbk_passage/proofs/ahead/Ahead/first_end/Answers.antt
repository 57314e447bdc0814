use Rattle.std.proofs.Common.{arith}
use Rattle.lbk_passage.proofs.AheadLemmas.{EndsFirst-noted, first-noted, noted-within}
use Rattle.lbk_passage.proofs.ahead.Ahead.first_end.Goals as goal

pub bounds-self-k : goal.bounds-self-k
bounds-self-k c =
    let h = c.requires.1 in
    omega (arith, noted-within h (omega (arith, h.few.0, c.if-self.false)), h.within, c.from-k.ensures)

pub overflow_sub-result : goal.overflow_sub-result
overflow_sub-result c =
    let h = c.requires.1 in
    omega (arith, (first-noted h (omega (arith, h.few.0, c.if-self.false))).place, c.from-k.ensures)

pub returns-then-self-k : goal.returns-then-self-k
returns-then-self-k c = λ found h some.
    EndsFirst-noted h (omega (arith, h.few.0, c.if-self.false)) c.args.len c.from-k.result _ c.from-k.ensures c.if-self-k.true
