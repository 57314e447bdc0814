use Rattle.std.proofs.Common.{arith}
use Rattle.lbk_bytes.specs.Shown.{given_in}
use Rattle.lbk_units.specs.Reached.{on_from}
use Rattle.lbk_units.proofs.ReachedLemmas.{step-decided}
use Rattle.lbk_units.proofs.filling.take_one.Goals as goal

pub returns-clause-goes_on : goal.returns-clause-goes_on
returns-clause-goes_on g c =
    let within = c.decide_one-decided.ensures.within in
    let put = c.put.ensures in
    record {
      within = (omega (arith, put.within.0), within.0, within.2);
      onward = (omega (arith, within.1), put.within.1);
      in_order = λ from order. (omega (arith, order.0, within.1), put.in_order from c.decide_one-decided.result.at within.1 order);
    }

pub returns-clause-gives : goal.returns-clause-gives
returns-clause-gives g c = λ cell flat all reached.
    let here = c.args.here in
    let t = g.T.Target in
    let met = g.met.T.Target in
    let decided = c.decide_one-decided in
    step-decided (t.onward all.end) t.with_verdict (met.steps all.end) met.adds c.args.profile cell (on_from g.U.Unit.pieces_of c.args.text.now) all.breaks here c.put.result
    (given_in c.args.out.now here.count) (given_in c.put.new.out c.put.result) decided.result
    (λ taken known. decided.ensures.decided cell taken flat known) c.put.ensures.front reached
