use Rattle.std.proofs.Common.{ℕ, sym, subst}
use Rattle.lbk_rules.specs.Kinds.{kinds_of_cells}
use Rattle.lbk_rules.specs.Neighbours.{AreTold}
use Rattle.lbk_rules.specs.Rows.{steps_in}
use Rattle.lbk_rules.specs.Terms.{Profile}
use Rattle.lbk_rules.specs.declared.neighbours.Neighbours.{Neighbours}
use Rattle.lbk_files.specs.TaskCells.{cell_of_task}
use Rattle.lbk_files.specs.declared.task_cells.TaskCells.{TaskCells}
use Rattle.lbk_files.proofs.task_cells.TaskCellsCellSource.neighbours.Goals as goal

-- what is told of the bytes side by side of these cells
abbrev AllTold : Neighbours → TaskCells → Type 0
AllTold pairs cells = (profile : Profile) → AreTold (steps_in profile) (kinds_of_cells (cell_of_task cells)) pairs

pub returns-in-BuiltIn : goal.returns-in-BuiltIn
returns-in-BuiltIn c = subst (AllTold c.neighbours.result.now) (sym c.in-BuiltIn.is) c.neighbours.ensures

pub returns-in-OfFiles : goal.returns-in-OfFiles
returns-in-OfFiles c = subst (AllTold c.neighbours-in-OfFiles.result.now) (sym c.in-OfFiles.is) c.neighbours-in-OfFiles.ensures
