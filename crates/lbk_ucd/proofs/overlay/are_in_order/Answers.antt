use Rattle.std.proofs.Common.{◌-◌, arith}
use Rattle.std.proofs.lemmas.List.{get_or_default}
use Rattle.lbk_ucd.proofs.OverlayLemmas.{ordered_more}
use Rattle.lbk_ucd.proofs.overlay.are_in_order.Goals as goal

pub loop-next-preserved : goal.loop-next-preserved
loop-next-preserved g c =
    let rows = c.args.ranges.now.rows.now in
    let next = c.loop-next.next in
    ordered_more rows next c.args.ranges.now.each c.loop-next.auto.next (omega arith) c.loop-next.invariant
    (λ d. rw (get_or_default rows (next - 1) d c.index-rows-next-in-loop-next.result (omega arith), get_or_default rows next d c.index-rows-next.result (omega arith)) c.if-rows-next.false)
