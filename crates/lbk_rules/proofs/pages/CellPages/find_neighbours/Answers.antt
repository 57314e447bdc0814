use Rattle.std.proofs.Common.{refl, subst}
use Rattle.lbk_rules.specs.declared.neighbours.Neighbours.{Neighbours}
use Rattle.lbk_rules.specs.CellPages.{page_cell}
use Rattle.lbk_rules.specs.CellTable.{cell_in}
use Rattle.lbk_rules.specs.Kinds.{kinds_of_cells}
use Rattle.lbk_rules.specs.Neighbours.{AreNeighboursOf}
use Rattle.lbk_rules.proofs.CellTableLemmas.{kinds-are, some-same}
use Rattle.lbk_rules.proofs.pages.CellPages.find_neighbours.Goals as goal

pub of_kinds-found-requires : goal.of_kinds-found-requires
of_kinds-found-requires c = kinds-are (cell_in page_cell c.new.result)

pub invariant_of-self-clause-told : goal.invariant_of-self-clause-told
unfolding page_cell
invariant_of-self-clause-told c = λ found is.
    subst (λ (n : Neighbours). AreNeighboursOf (kinds_of_cells (page_cell c.args.self.now)) n) (some-same _ found is)
    (subst (λ cell. AreNeighboursOf (kinds_of_cells cell) c.of_kinds-found.result) c.new.ensures.cells c.of_kinds-found.ensures.are)

pub returns : goal.returns
unfolding page_cell
returns c = refl
