use Rattle.std.proofs.Common.{rules}
use Rattle.lbk_rules.specs.CellOfTables.{cell_of_tables}
use Rattle.lbk_files.proofs.cells.read_cells.Goals as goal

pub returns-clause-cells : goal.returns-clause-cells
unfolding cell_of_tables
returns-clause-cells c = search rules
