use Rattle.std.proofs.Common.{◌+◌, ◌-◌, get_or, refl, ap, ◌∙◌, arith}
use Rattle.lbk_rules.specs.Neighbours.{step_behind}
use Rattle.lbk_rules.specs.Rows.{step_by}
use Rattle.lbk_bytes.specs.declared.blocks.BlockState.{BlockState}
use Rattle.lbk_bytes.proofs.BlockLemmas.{break-taken}
use Rattle.lbk_bytes.proofs.BlockOrderLemmas.{ahead-taken, lowest-ahead, order-taken}
use Rattle.lbk_bytes.proofs.blocks.take_break.Goals as goal

pub returns-clause-reached : goal.returns-clause-reached
returns-clause-reached g c = λ profile cell more all begin taken block left start.
    let first = c.first_set-index in
    let there : BlockState = record { count = c.put.result; past = c.args.at + first.result + 1; left = c.without_first.result } in
    let cleared = c.without_first.ensures.cleared first.result first.ensures.within first.ensures.lowest in
    break-taken profile cell c.args.text.now more all c.args.steps.now (g.K.KindSource.kinds_of c.args.kinds.now) (g.K.KindSource.pairs_of c.args.kinds.now) c.args.out.now c.put.new.out
    c.args.at begin taken first.result c.args.here there c.step_at-step.result.now
    block.within block left first.ensures.within c.requires.place.1 first.ensures.lowest cleared refl
    (c.step_at-step.ensures.read ∙ ap (step_by c.args.steps.now c.place_by-row.result) c.kind_of_byte.ensures
    ∙ ap (λ r. step_by c.args.steps.now r (get_or (g.K.KindSource.kinds_of c.args.kinds.now) (get_or c.args.text.now (c.args.at + first.result) 0) 0)) c.place_by-row.ensures.number
    ∙ ap (λ p. step_behind c.args.steps.now (g.K.KindSource.kinds_of c.args.kinds.now) p (get_or c.args.text.now (c.args.at + first.result - 1) 0) (get_or c.args.text.now (c.args.at + first.result) 0)) c.pairs.ensures)
    c.put.ensures.front start

pub returns-clause-ahead : goal.returns-clause-ahead
returns-clause-ahead g c = λ taken ahead.
    let first = c.first_set-index in
    let there : BlockState = record { count = c.put.result; past = c.args.at + first.result + 1; left = c.without_first.result } in
    let cleared = c.without_first.ensures.cleared first.result first.ensures.within first.ensures.lowest in
    let lowest = lowest-ahead c.args.at taken first.result c.args.here ahead first.ensures.within (first.ensures.lowest.set c.requires.place.1) in
    (ahead-taken c.args.at taken first.result c.args.here there ahead first.ensures.within c.requires.place.1 first.ensures.lowest cleared refl, omega (arith, lowest.1))

pub returns-clause-in_order : goal.returns-clause-in_order
returns-clause-in_order g c = λ taken from ahead order.
    let first = c.first_set-index in
    order-taken c.args.out.now c.put.new.out c.args.at taken first.result c.put.result from c.args.here ahead first.ensures.within c.requires.place.1 first.ensures.lowest
    c.put.ensures.in_order order
