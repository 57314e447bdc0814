use Rattle.std.proofs.Common.{◌+◌, ap, ◌∙◌, arith}
use Rattle.lbk_rules.specs.Rows.{step_by}
use Rattle.lbk_bytes.specs.declared.fill_state.FillState.{FillState}
use Rattle.lbk_bytes.proofs.UnitLemmas.{front-at}
use Rattle.lbk_units.proofs.RunLemmas.{runs-step, runs-then}
use Rattle.lbk_units.proofs.filling.run.Goals as goal

pub overflow_add-at : goal.overflow_add-at
overflow_add-at g c =
    let front = front-at g.U.Unit.pieces_of c.args.text.now c.loop-count.at c.front-found.result (omega arith) c.front-found.ensures in
    omega (arith, front.within)

pub loop-count-smaller : goal.loop-count-smaller
loop-count-smaller g c =
    let front = front-at g.U.Unit.pieces_of c.args.text.now c.loop-count.at c.front-found.result (omega arith) c.front-found.ensures in
    omega (arith, front.within, front.some)

pub loop-count-preserved : goal.loop-count-preserved
loop-count-preserved g c =
    let l = c.loop-count in
    let t = g.T.Target in
    let met = g.met.T.Target in
    let found = c.front-found.result in
    let step = c.step_at-step in
    let put = c.put-count in
    let here : FillState = record { count = l.count; row = l.row; at = l.at } in
    let next : FillState = record { count = put.result; row = step.result.now.next; at = l.at + found.size } in
    runs-then t.entry t.onward g.U.Unit.pieces_of (g.K.KindSource.kinds_of c.args.kinds.now) c.args.steps.now c.args.text.now c.args.out.now l.out put.new.out c.args.start here next
    (omega arith) l.invariant
    (runs-step t.entry t.onward g.U.Unit.pieces_of (g.K.KindSource.kinds_of c.args.kinds.now) c.args.steps.now c.args.text.now t.with_verdict met.steps met.adds
    l.out put.new.out here put.result found step.result.now (omega arith) c.front-found.ensures c.front-found.type_inv.1.1.0.1
    (step.ensures.read ∙ ap (step_by c.args.steps.now l.row) c.kind_at.ensures) step.ensures.begins c.if-step-eq-HELD.false put.ensures.within.0 put.ensures.within.1 put.ensures.in_order put.ensures.front)
