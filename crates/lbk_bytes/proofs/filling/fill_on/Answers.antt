use Rattle.std.proofs.Common.{arith}
use Rattle.lbk_bytes.proofs.filling.fill_on.Goals as goal

pub loop-here-preserved : goal.loop-here-preserved
loop-here-preserved g c =
    let l = c.loop-here in
    let further = c.further-here in
    let within = further.ensures.goes.within in
    record {
      within = (omega (arith, within.0), within.1, within.2);
      no_room = λ none. absurd (omega arith);
      in_order = λ from order. further.ensures.goes.in_order from (l.invariant.in_order from order);
      reached = λ cell all flat start. further.ensures.reached cell all flat (l.invariant.reached cell all flat start);
    }
