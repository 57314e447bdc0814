use Rattle.std.proofs.Common.{ap, ◌∙◌, arith}
use Rattle.lbk_bytes.specs.Blocks.{row_before}
use Rattle.lbk_bytes.proofs.BlockLemmas.{stopped-there}
use Rattle.lbk_bytes.proofs.BlockOrderLemmas.{order-stopped, past-stopped}
use Rattle.lbk_bytes.proofs.blocks.finish.Goals as goal

pub loop-here-preserved : goal.loop-here-preserved
loop-here-preserved g c =
    let l = c.loop-here in
    let some = c.take_break-here.ensures in
    let next = some.ahead c.args.taken l.invariant.ahead in
    record {
      room = omega (arith, some.within.0);
      more = omega (arith, some.onward.0);
      ahead = next.0;
      onward = omega (arith, l.invariant.onward, next.1);
      in_order = λ from order. some.in_order c.args.taken from l.invariant.ahead (l.invariant.in_order from order);
      reached = λ profile cell more all begin block left start.
          let here = l.invariant.reached profile cell more all begin block left start in
          some.reached profile cell more all begin c.args.taken block here.0 here.1;
    }

pub returns-clause-within : goal.returns-clause-within
returns-clause-within g c =
    let stopped = c.stopped.ensures in
    (omega (arith, stopped.count), stopped.within.0, stopped.within.2)

pub returns-clause-reached : goal.returns-clause-reached
returns-clause-reached g c = λ profile cell more all begin block left start.
    let l = c.loop-here in
    let stopped = c.stopped.ensures in
    stopped-there profile cell c.args.text.now more all c.args.steps.now (g.K.KindSource.kinds_of c.args.kinds.now) (g.K.KindSource.pairs_of c.args.kinds.now) l.out c.args.at begin c.args.taken l.here c.stopped.result
    block.within block stopped.count (stopped.row ∙ ap (λ p. row_before p c.args.text.now c.stopped.result.at) c.pairs.ensures) stopped.within.1 stopped.all stopped.some (l.invariant.reached profile cell more all begin block left start)

pub returns-clause-in_order : goal.returns-clause-in_order
returns-clause-in_order g c = λ from order.
    let l = c.loop-here in
    let stopped = c.stopped.ensures in
    order-stopped l.out c.args.at c.args.taken from l.here c.stopped.result stopped.count stopped.within.1 stopped.all stopped.some l.invariant.ahead (l.invariant.in_order from order)

pub returns-clause-onward : goal.returns-clause-onward
returns-clause-onward g c =
    let l = c.loop-here in
    let stopped = c.stopped.ensures in
    let past = past-stopped c.args.at c.args.taken l.here c.stopped.result stopped.within.1 stopped.all stopped.some l.invariant.ahead in
    (omega (arith, l.invariant.onward, past), omega (arith, l.invariant.more, stopped.count))
