-- The cells of the property values that a task names: those that are built in, or those of four files.
use Rattle.std.specs.Prelude.{◌≡◌, ℕ, List, Option}
use Rattle.lbk_args.specs.Task.{NamedValues, built_in, in_files}
use Rattle.lbk_rules.specs.declared.Cell.{Cell}
use Rattle.lbk_rules.specs.Unicode.{unicode_cell}
use Rattle.lbk_files.specs.FileFault.{AreCellsFrom, IsFileFault}
use Rattle.lbk_files.specs.Named.{files_of}
use Rattle.lbk_files.specs.Store.{LoadCounts}
use Rattle.lbk_files.specs.declared.faults.CellsFault.{CellsFault}

-- the built-in cells, for which nothing is loaded, or those of the files
abbrev pub AreCellsBy : (List ℕ → Option (Option (List ℕ))) → NamedValues → LoadCounts → LoadCounts → (ℕ → Cell) → Type 0
AreCellsBy file built_in before after cell = (cell ≡ unicode_cell) × (after ≡ before)
AreCellsBy file (in_files names) before after cell = AreCellsFrom (files_of file names) cell

-- the built-in ones have no fault; files have that of the first step that fails
abbrev pub IsValuesFault : (List ℕ → Option (Option (List ℕ))) → NamedValues → LoadCounts → LoadCounts → CellsFault
    → Type 0
IsValuesFault file built_in before after fault = ⊥
IsValuesFault file (in_files names) before after fault = IsFileFault (files_of file names) before after fault
