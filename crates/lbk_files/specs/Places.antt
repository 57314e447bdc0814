-- The names under which the four files are loaded, and what a store tells about them.
use Rattle.std.specs.Prelude.{◌≡◌, ℕ, List, Option, Result, Ok, Err, MatchResult, Vec, true, false, string_bytes}
use Rattle.lbk_feed.specs.Devices.{count_up}
use Rattle.lbk_ucd.specs.declared.which.Which.{Which}
use Rattle.lbk_files.specs.FileFault.{FourFiles, IsLoaded, Told}
use Rattle.lbk_files.specs.Named.{IsOneFault}
use Rattle.lbk_files.specs.declared.faults.CellsFault.{CellsFault}
use Rattle.lbk_files.specs.declared.faults.CellsFault.TheVariants.{Memory}
use Rattle.lbk_files.specs.declared.places.Place.{Place}
use Rattle.lbk_files.specs.declared.places.Place.TheVariants.{Given, InFolder}
use Rattle.lbk_files.specs.declared.places.Places.{Places}
use Rattle.lbk_files.specs.declared.store.Store.{Ghosts as StoreMembers}

-- what is told about the file with a name
abbrev pub told_at : (List ℕ → Option (Option (List ℕ))) → Place → Told
told_at file (Given name) = record { contents = file name.now; is_claimed = false }
told_at file (InFolder name) = record { contents = file (string_bytes name); is_claimed = true }

-- what is told about the four
abbrev pub files_at : (List ℕ → Option (Option (List ℕ))) → Places → FourFiles
files_at file places = record {
  line_break = told_at file places.line_break;
  east_asian = told_at file places.east_asian;
  category = told_at file places.category;
  emoji = told_at file places.emoji;
}

-- how many loads ran out of memory, after one with this fault
abbrev pub refused_by : ℕ → CellsFault → ℕ
refused_by n Memory = count_up n
refused_by n _ = n

-- how many did, after one whose file was then checked
abbrev pub refusals_by : {T : Type 0} → ℕ → Result T CellsFault → ℕ
refusals_by n (Ok _) = n
refusals_by n (Err fault) = refused_by n fault

-- one load of one of the four files, and its check
pub record LoadsOne {S Z : Type 0} (store : StoreMembers S) (old new : S) (which : Which) (told : Told)
    (result : Result (Vec ℕ Z) CellsFault) : Type 0 where
  pub loaded : MatchResult result (λ bytes. IsLoaded which told bytes.items) (IsOneFault which told)
  pub refusals : store.refusal_count new ≡ refusals_by (store.refusal_count old) result
  pub files : store.file new ≡ store.file old
  pub loads : store.load_count new ≡ count_up (store.load_count old)
