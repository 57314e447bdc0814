use Rattle.std.proofs.Common.{arith}
use Rattle.lbk_bytes.proofs.FillsLemmas.{takes-twice}
use Rattle.lbk_bytes.proofs.filling.fill_common.Goals as goal

pub loop-part-init : goal.loop-part-init
loop-part-init g c =
    let begun = c.emoji_first-here in
    let part = c.common_part-part.ensures in
    record {
      until = part.within.3;
      fills = takes-twice (omega (arith, begun.auto.out)) begun.ensures (record {
        within = (omega (arith, part.within.0, c.common_part-part.auto.out), part.within.1, part.within.2);
        onward = (part.onward.1, part.onward.0);
        in_order = part.in_order;
        reached = part.reached;
      });
    }
