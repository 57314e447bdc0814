use Rattle.std.proofs.Common.{arith}
use Rattle.lbk_passage.proofs.Passing.{calm-joined}
use Rattle.lbk_passage.proofs.reach.past_calm.Goals as goal

pub returns-then-end-at-clause-calm : goal.returns-then-end-at-clause-calm
returns-then-end-at-clause-calm g c =
    let l = c.loop-at in
    calm-joined (g.C.CellSource.cell_of c.args.known.now.cells.now) c.args.piece.now c.args.start l.at c.past_calm_block-end.result
    l.invariant.calm c.past_calm_block-end.ensures.calm

pub loop-at-preserved : goal.loop-at-preserved
loop-at-preserved g c =
    let l = c.loop-at in
    let within = c.past_calm_block-end.ensures.within in
    record {
      onward = omega (arith, l.invariant.onward, within.0);
      within = omega (arith, l.invariant.within, c.loop-at-test.true, within.1);
      calm = calm-joined (g.C.CellSource.cell_of c.args.known.now.cells.now) c.args.piece.now c.args.start l.at c.past_calm_block-end.result
          l.invariant.calm c.past_calm_block-end.ensures.calm;
    }
