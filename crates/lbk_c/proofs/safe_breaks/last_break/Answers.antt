use Rattle.std.proofs.Common.{refl, sym, ◌∙◌, arith}
use Rattle.lbk_c.proofs.SafeLemmas.{goes-break, goes-end, goes-past, goes-start}
use Rattle.lbk_c.proofs.safe_breaks.last_break.Goals as goal

pub loop-at-init : goal.loop-at-init
loop-at-init g c = record {
  low = omega arith;
  order = omega arith;
  within = c.requires;
  before = λ inside. inside;
  place = (refl, omega arith);
  goes = λ cell flat. goes-start c.args.rules cell c.args.text.now c.args.cut;
}

pub loop-at-preserved-then-shows_break : goal.loop-at-preserved-then-shows_break
loop-at-preserved-then-shows_break g c =
    let i = c.loop-at.invariant in
    let d = c.decide_one-decided in
    record {
      low = omega (arith, i.low, i.order);
      order = omega (arith, d.ensures.within);
      within = d.ensures.within.2;
      before = λ _. c.loop-at-test.true;
      place = d.ensures.within.0;
      goes = λ cell flat. (
          let g = i.goes cell flat in
          goes-break c.args.rules cell c.args.text.now c.args.cut c.loop-at.last c.loop-at.row c.loop-at.at g d.result (d.ensures.decided cell g.taken flat g.knows)
          (sym c.shows_break.ensures ∙ c.if-shows_break.true));
    }

pub loop-at-preserved : goal.loop-at-preserved
loop-at-preserved g c =
    let i = c.loop-at.invariant in
    let d = c.decide_one-decided in
    record {
      low = i.low;
      order = omega (arith, i.order, d.ensures.within);
      within = d.ensures.within.2;
      before = i.before;
      place = d.ensures.within.0;
      goes = λ cell flat. (
          let g = i.goes cell flat in
          goes-past c.args.rules cell c.args.text.now c.args.cut c.loop-at.last c.loop-at.row c.loop-at.at g d.result (d.ensures.decided cell g.taken flat g.knows)
          (sym c.shows_break.ensures ∙ c.if-shows_break.false));
    }

pub returns-clause-last : goal.returns-clause-last
returns-clause-last g c = λ cell flat.
    goes-end c.args.rules cell c.args.text.now c.args.cut c.loop-at.last c.loop-at.row c.loop-at.at (c.loop-at.invariant.goes cell flat) c.loop-at-test.false
