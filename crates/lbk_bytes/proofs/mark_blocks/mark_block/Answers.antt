use Rattle.std.proofs.Common.{length, arith}
use Rattle.lbk_bytes.proofs.MarkBlockLemmas.{marks-on, masked-on, stepped-on}
use Rattle.lbk_bytes.proofs.mark_blocks.mark_block.Goals as goal

pub returns-then-end-there : goal.returns-then-end-there
returns-then-end-there g c =
    let masked = c.mark_masked-there.ensures in
    marks-on c.loop-here.invariant (masked-on _ _ _ _ _ _ _ _ _ _ _ _ c.pairs-pairs.ensures masked.within masked.after c.in-Some.ensures masked.marked)

pub loop-here-preserved : goal.loop-here-preserved
loop-here-preserved g c =
    let masked = c.mark_masked-there.ensures in
    let stepped = c.runs-here.ensures in
    marks-on (marks-on c.loop-here.invariant (masked-on _ _ _ _ _ _ _ _ _ _ _ _ c.pairs-pairs.ensures masked.within masked.after c.in-Some.ensures masked.marked))
    (stepped-on _ _ _ _ _ _ _ _ _ (stepped.within.1, stepped.onward.0, stepped.within.2) (stepped.in_order 0)
    (λ profile cell more all swift kinds. stepped.reached profile cell more all (length c.args.text.now) swift kinds (omega arith)))

pub returns-then-here-there : goal.returns-then-here-there
returns-then-here-there g c =
    let masked = c.mark_masked-there.ensures in
    let stepped = c.runs-here.ensures in
    marks-on (marks-on c.loop-here.invariant (masked-on _ _ _ _ _ _ _ _ _ _ _ _ c.pairs-pairs.ensures masked.within masked.after c.in-Some.ensures masked.marked))
    (stepped-on _ _ _ _ _ _ _ _ _ (stepped.within.1, stepped.onward.0, stepped.within.2) (stepped.in_order 0)
    (λ profile cell more all swift kinds. stepped.reached profile cell more all (length c.args.text.now) swift kinds (omega arith)))
