use Rattle.std.proofs.Common.{sym, subst, arith}
use Rattle.lbk_passage.specs.Found.{IsKept}
use Rattle.lbk_passage.proofs.KeptLemmas.{IsKept-skipped}
use Rattle.lbk_passage.proofs.breaks.BreaksIterator.next.Goals as goal

pub invariant_of-self-2 : goal.invariant_of-self-2
invariant_of-self-2 g c =
    let i = c.self.inside in
    subst (IsKept i.profile (g.C.CellSource.cell_of i.cells.now) i.text.now) (sym c.give.ensures.rest)
    (IsKept-skipped c.hold.ensures.kept 1 (omega (arith, c.hold.ensures.some c.if-not-hold.false)))
