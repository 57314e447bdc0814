-- A refusal of the sample files is want of memory.
use Rattle.std.specs.Prelude.{Result, Ok, Err, IfOk, IfErr, MatchResult}
use Rattle.lbk_ucd.specs.declared.tables.Files.{Files}
use Rattle.lbk_ucd.specs.Samples.{AreSamples}
use Rattle.lbk_ucd.proofs.SampleLemmas.{samples_lawful, lawful_refused}
use Rattle.lbk_files.specs.declared.faults.CellsFault.{CellsFault}
use Rattle.lbk_files.specs.declared.faults.CellsFault.TheVariants.{Load, Claim, Tables, Memory}
use Rattle.lbk_rules.specs.CellPages.{page_cell}
use Rattle.lbk_rules.specs.declared.pages.CellPages.{CellPages}
use Rattle.lbk_files.specs.Cells.{AreCellsOf}
use Rattle.lbk_files.specs.CellsRefusal.{IsCellsRefusal}
use Rattle.lbk_files.specs.SampleFiles.{AreSampleCells, IsSampleFault, IsWantOfMemory}

pub wants_memory : (files : Files) (fault : CellsFault) → AreSamples files → IsCellsRefusal files fault
    → IsWantOfMemory fault
wants_memory files (Tables fault) are refused = lawful_refused files fault (samples_lawful files are) refused
wants_memory files Memory are refused = tt
wants_memory files (Load which) are refused = refused
wants_memory files (Claim which cause) are refused = refused

-- what comes of reading them
pub sampled : (files : Files) (result : Result CellPages CellsFault) → IfErr result (IsCellsRefusal files)
    → IfOk result (λ pages. AreCellsOf files (page_cell pages)) → AreSamples files
    → MatchResult result (λ pages. AreSampleCells (page_cell pages)) IsSampleFault
sampled files (Ok pages) refused cells are = (files, are, cells)
sampled files (Err fault) refused cells are = (files, are, refused, wants_memory files fault are refused)
