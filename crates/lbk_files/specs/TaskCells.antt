-- What the cells of a task show: a cell for each code.
use Rattle.std.specs.Prelude.{ℕ}
use Rattle.lbk_rules.specs.declared.Cell.{Cell}
use Rattle.lbk_rules.specs.CellPages.{page_cell}
use Rattle.lbk_rules.specs.Unicode.{unicode_cell}
use Rattle.lbk_files.specs.declared.task_cells.TaskCells.{TaskCells}
use Rattle.lbk_files.specs.declared.task_cells.TaskCells.TheVariants.{BuiltIn, OfFiles}

abbrev pub cell_of_task : TaskCells → ℕ → Cell
cell_of_task (BuiltIn cells) = unicode_cell
cell_of_task (OfFiles pages) = page_cell pages
