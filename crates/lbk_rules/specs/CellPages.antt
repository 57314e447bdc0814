-- What pages of cells show: a cell for each code.
use Rattle.std.specs.Prelude.{ℕ}
use Rattle.lbk_uax14.specs.declared.cells.Cell.{Cell}
use Rattle.lbk_uax14.specs.PageCells.{cell_of_pages}
use Rattle.lbk_rules.specs.declared.pages.CellPages.{CellPages}

-- the cell of a code in these pages
unfoldable pub page_cell : CellPages → ℕ → Cell
page_cell pages code = cell_of_pages pages.pages code
