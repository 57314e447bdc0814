-- What a table over the cells of a source shows.
use Rattle.std.specs.Prelude.{ℕ, List}
use Rattle.lbk_uax14.specs.declared.cells.Cell.{Cell}
use Rattle.lbk_rules.specs.declared.cell_table.CellTable.{CellTable}
use Rattle.lbk_rules.specs.declared.neighbours.Neighbours.{Neighbours}
use Rattle.lbk_rules.specs.Kinds.{kinds_of_cells}

-- the cells of the table's source, of which `cell_of` gives each
abbrev pub cell_in : {C : Type 0} {bound : _} → (C → ℕ → Cell) → CellTable C bound → ℕ → Cell
cell_in cell_of table = cell_of table.cells.now

-- their kinds
abbrev pub kinds_in : {C : Type 0} {bound : _} → (C → ℕ → Cell) → CellTable C bound → List ℕ
kinds_in cell_of table = kinds_of_cells (cell_in cell_of table)

-- what the table has of bytes side by side
abbrev pub pairs_in : {C : Type 0} {bound : _} → CellTable C bound → Neighbours
pairs_in table = table.pairs.now
