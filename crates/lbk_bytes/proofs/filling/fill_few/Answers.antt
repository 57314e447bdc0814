use Rattle.std.proofs.Common.{length, arith}
use Rattle.lbk_bytes.proofs.filling.fill_few.Goals as goal

pub returns : goal.returns
returns g c =
    let here = c.mixed.ensures in
    record {
      in_room = omega (arith, here.within.0, c.mixed.auto.out);
      fills = record {
        within = (omega (arith, here.within.0), here.within.1, here.within.2);
        onward = here.onward;
        in_order = here.in_order;
        reached = λ cell more all flat start.
            here.reached c.args.profile cell more all (length c.args.text.now) c.rows_of.ensures flat.kinds (omega arith) start;
      };
    }
