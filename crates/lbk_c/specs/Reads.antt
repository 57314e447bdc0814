-- What the calls promise that fill a table from four property files: each clause once.
use Rattle.std.specs.Prelude.{◌≡◌, ◌<◌, ℕ}
use Rattle.lbk_ucd.specs.declared.tables.Files.{Files}
use Rattle.lbk_rules.specs.declared.Cell.{Cell}
use Rattle.lbk_rules.specs.declared.flat_table.FlatTable.{FlatTable}
use Rattle.lbk_rules.specs.Cells.{AreCellsOf, cell_of_files}
use Rattle.lbk_rules.specs.FlatTable.{AreKindsAlone, IsFlatOf, IsWhole}
use Rattle.lbk_rules.specs.Neighbours.{AreNeighboursOf}
use Rattle.lbk_c.specs.declared.interface.Fault.{Fault}
use Rattle.lbk_c.specs.Faults.{no_fault}

-- without a fault the files are `Accepted`, and the table is that of the files; a fault is `Refused` of the files
pub record ReadsTable (Accepted : Files → Type 0) (Refused : Files → Fault → Type 0) (files : Files)
    (old new : FlatTable) (fault : Fault) : Type 0 where
  pub accepted : fault.cause ≡ 0 → Accepted files
  pub table : fault.cause ≡ 0 → (cell : ℕ → Cell) → AreCellsOf files cell → IsFlatOf new cell
  pub whole : fault.cause ≡ 0 → IsWhole new
  pub neighbours : fault.cause ≡ 0 → AreNeighboursOf new.kinds new.pairs
  pub kinds : fault.cause ≡ 0 → AreKindsAlone new (cell_of_files files)
  pub none : fault.cause ≡ 0 → fault ≡ no_fault
  pub refused : 0 < fault.cause → Refused files fault
  pub untouched : 0 < fault.cause → new ≡ old
