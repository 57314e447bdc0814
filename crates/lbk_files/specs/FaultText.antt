-- The text of a fault of the property files, after the name of its file.
use Rattle.std.specs.Prelude.{ℕ, ◌==◌, List, [], ◌∷◌, ◌++◌, codes, decimal, if◌then◌else◌}
use Rattle.lbk_ucd.specs.Causes.{cause_text}
use Rattle.lbk_ucd.specs.ClaimTexts.{claim_text}
use Rattle.lbk_files.specs.declared.faults.CellsFault.{CellsFault}
use Rattle.lbk_files.specs.declared.faults.CellsFault.TheVariants.{Load, Claim, Tables, Memory}

-- a line and a colon (58), for a fault in a line
abbrev pub line_part : ℕ → List ℕ
line_part line = if line == 0 then [] else decimal line ++ (58 ∷ [])

-- a fault after the name of its file; running out of memory concerns no file
abbrev pub fault_text : CellsFault → List ℕ → List ℕ
fault_text (Load which) name = name ++ codes ": the file cannot be read"
fault_text (Claim which cause) name = name ++ (codes ": " ++ claim_text which cause)
fault_text (Tables fault) name = name ++ (58 ∷ (line_part fault.line ++ (32 ∷ cause_text fault.cause)))
fault_text Memory name = codes "out of memory"
