use Rattle.lbk_rules.proofs.CellTableLemmas.{kinds-flat}
use Rattle.lbk_rules.proofs.cell_table.CellTable.new.Goals as goal

pub returns-clause-table : goal.returns-clause-table
returns-clause-table g c = record {
  kinds = kinds-flat (g.C.CellSource.cell_of c.args.cells.now);
  told = c.neighbours.ensures;
}
