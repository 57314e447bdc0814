use Rattle.std.proofs.Common.{sym, arith}
use Rattle.lbk_c.proofs.SegmentLemmas.{next-one, put-one}
use Rattle.lbk_c.proofs.segments.put_segments.Goals as goal

pub loop-k-preserved : goal.loop-k-preserved
loop-k-preserved c =
    let i = c.loop-k.invariant in
    let k = c.loop-k.k in
    let breaks = c.args.breaks.now in
    let few = c.loop-k-test.true in
    record {
      within = omega (arith, few);
      front = put-one c.args.out.now c.loop-k.out c.args.from k c.args.start c.loop-k.start breaks few (omega (arith, few, c.requires, c.loop-k.auto.out)) i.front i.next;
      next = sym (next-one c.args.start k breaks few);
    }
