-- The loads of a run, and their result.
use Rattle.std.specs.Prelude.{◌≡◌, ◌+◌, ◌<◌, ◌≤◌, Result, Err, MatchResult, OnOk}
use Rattle.lbk_rules.specs.CellPages.{page_cell}
use Rattle.lbk_rules.specs.declared.pages.CellPages.{CellPages}
use Rattle.lbk_ucd.specs.declared.which.Which.TheVariants.{Emoji}
use Rattle.lbk_files.specs.FileFault.{AreCellsFrom, FourFiles, IsFileFault, loads_to}
use Rattle.lbk_files.specs.Store.{counts_of}
use Rattle.lbk_files.specs.declared.faults.CellsFault.{CellsFault}
use Rattle.lbk_files.specs.declared.faults.CellsFault.TheVariants.{Memory}
use Rattle.lbk_files.specs.declared.store.Store.{Ghosts as StoreMembers}

-- at most four loads are made, the run ends as out of memory if one of them does, and the store tells the same as
-- before
pub record TakesFiles {S : Type 0} (store : StoreMembers S) (old new : S) (IsOutOfMemory : Type 0) : Type 0 where
  pub refused : store.refusal_count old < store.refusal_count new → IsOutOfMemory
  pub loads : store.load_count new ≤ store.load_count old + 4
  pub files : store.file new ≡ store.file old

-- the four files are loaded and read, if the store tells this about them
pub record ReadsFiles {S : Type 0} (store : StoreMembers S) (old new : S) (four : FourFiles)
    (result : Result CellPages CellsFault) : Type 0 where
  pub loaded : MatchResult result (λ pages. AreCellsFrom four (page_cell pages))
      (IsFileFault four (counts_of (store.load_count old) (store.refusal_count old))
      (counts_of (store.load_count new) (store.refusal_count new)))
  pub takes : TakesFiles store old new (result ≡ Err Memory)
  pub all : OnOk result (store.load_count new ≡ loads_to Emoji (store.load_count old))
