-- The result of the sample files: their cells, or out of memory.
use Rattle.std.specs.Prelude.{◌≡◌, ℕ, ⊤}
use Rattle.lbk_ucd.specs.declared.tables.Files.{Files}
use Rattle.lbk_ucd.specs.declared.faults.UcdCause.TheVariants as cause
use Rattle.lbk_ucd.specs.Samples.{AreSamples}
use Rattle.lbk_rules.specs.declared.Cell.{Cell}
use Rattle.lbk_files.specs.declared.faults.CellsFault.{CellsFault}
use Rattle.lbk_files.specs.declared.faults.CellsFault.TheVariants.{Load, Claim, Tables, Memory}
use Rattle.lbk_files.specs.Cells.{AreCellsOf}
use Rattle.lbk_files.specs.CellsRefusal.{IsCellsRefusal}

-- each scalar value has its cell by the sample files
abbrev pub AreSampleCells : (ℕ → Cell) → Type 0
AreSampleCells cell = (files : Files) × AreSamples files × AreCellsOf files cell

-- memory could not grow, for the tables or for the pages
abbrev pub IsWantOfMemory : CellsFault → Type 0
IsWantOfMemory (Tables fault) = fault.cause ≡ cause.Memory
IsWantOfMemory Memory = ⊤
IsWantOfMemory (Load which) = ⊥
IsWantOfMemory (Claim which cause) = ⊥

-- the sample files give no cells only if memory runs out
abbrev pub IsSampleFault : CellsFault → Type 0
IsSampleFault fault = (files : Files) × AreSamples files × IsCellsRefusal files fault × IsWantOfMemory fault
