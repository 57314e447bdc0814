use Rattle.std.proofs.Common.{arith}
use Rattle.lbk_chunks.proofs.BreakLemmas.{shown-front}
use Rattle.lbk_chunks.proofs.cursor.next_breaks.Goals as goal

pub returns-clause-first : goal.returns-clause-first
returns-clause-first g c = λ cell breaks comes.
    let give = c.give_breaks-count in
    let gives = give.ensures.gives cell breaks comes in
    record {
      counted = gives.count;
      shown = shown-front give.result give.new.out _ (omega (arith, give.ensures.goes_over.within, give.auto.out)) gives.front give.ensures.goes_over.in_order.each;
      onward = gives.rest;
    }

pub returns-clause-within : goal.returns-clause-within
returns-clause-within g c = λ k below. (let h = (c.give_breaks-count.ensures.goes_over.in_order.within k below).1 in omega (arith, h))
