use Rattle.std.proofs.Common.{IsCharBoundary, subst}
use Rattle.lbk_passage.proofs.Taking.{boundary}
use Rattle.lbk_passage.proofs.paragraph.Paragraph.reach.Goals as goal

pub returns-clause-reaches : goal.returns-clause-reaches
returns-clause-reaches g c = rw (← c.ready.ensures.ready, ← c.len.ensures) c.reach_in.ensures

pub returns-clause-place : goal.returns-clause-place
returns-clause-place g c =
    subst (λ l. IsCharBoundary l c.reach_in.result.len) c.ready.ensures.ready
    (boundary (g.C.CellSource.cell_of c.args.known.now.cells.now) c.args.last c.ready.result.now _ c.reach_in.result c.ready.utf8 c.reach_in.ensures)
