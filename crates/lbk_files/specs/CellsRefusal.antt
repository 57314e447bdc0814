-- Why cells are refused.
use Rattle.lbk_ucd.specs.declared.tables.Files.{Files}
use Rattle.lbk_ucd.specs.Files.{AreLawful, IsRefused}
use Rattle.lbk_files.specs.declared.faults.CellsFault.{CellsFault}
use Rattle.lbk_files.specs.declared.faults.CellsFault.TheVariants.{Load, Claim, Tables, Memory}

-- the files are refused at their fault, or, without a fault, because memory for their pages ran out
abbrev pub IsCellsRefusal : Files → CellsFault → Type 0
IsCellsRefusal files (Tables fault) = IsRefused files fault
IsCellsRefusal files Memory = AreLawful files
IsCellsRefusal files (Load which) = ⊥
IsCellsRefusal files (Claim which cause) = ⊥
