use Rattle.std.proofs.Common.{◌+◌, ap, ◌∙◌, arith}
use Rattle.lbk_rules.specs.Rows.{step_by}
use Rattle.lbk_bytes.specs.declared.fill_state.FillState.{FillState}
use Rattle.lbk_units.proofs.RunLemmas.{runs-step, runs-then}
use Rattle.lbk_units.proofs.alone.run_alone.Goals as goal

pub loop-at-preserved : goal.loop-at-preserved
loop-at-preserved g c =
    let l = c.loop-at in
    let t = g.T.Target in
    let met = g.met.T.Target in
    let step = c.step_at-step in
    let put = c.put-count in
    let here : FillState = record { count = l.count; row = l.row; at = l.at } in
    let next : FillState = record { count = put.result; row = step.result.now.next; at = l.at + 1 } in
    record {
      runs = runs-then t.entry t.onward g.U.Unit.pieces_of (g.K.KindSource.kinds_of c.args.kinds.now) c.args.steps.now c.args.text.now c.args.out.now l.out put.new.out c.args.start here next
          (omega arith) l.invariant.runs
          (runs-step t.entry t.onward g.U.Unit.pieces_of (g.K.KindSource.kinds_of c.args.kinds.now) c.args.steps.now c.args.text.now t.with_verdict met.steps met.adds
          l.out put.new.out here put.result (record { scalar = c.in-Some.code; size = 1 }) step.result.now (omega arith) c.in-Some.ensures.1 c.in-Some.ensures.0
          (step.ensures.read ∙ ap (step_by c.args.steps.now l.row) c.kind_at.ensures) step.ensures.begins c.if-step-eq-HELD.false put.ensures.within.0 put.ensures.within.1 put.ensures.in_order put.ensures.front);
      room = omega (arith, put.ensures.within.2, l.invariant.room);
    }
