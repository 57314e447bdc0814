-- What pages of cells show: a cell for each code.
use Rattle.std.specs.Prelude.{ℕ}
use Rattle.lbk_uax14.specs.declared.cells.Cell.{Cell}
use Rattle.lbk_uax14.specs.declared.pages.Pages.{Pages}
use Rattle.lbk_uax14.specs.Pages.{cell_in}

-- the cell of a code in these pages
unfoldable pub cell_of_pages : Pages → ℕ → Cell
cell_of_pages pages code = cell_in pages.numbers.items pages.pages.items code
