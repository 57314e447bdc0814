-- A run over the texts that operands name.
use Rattle.std.specs.Prelude.{◌≡◌, ◌≢◌, ◌⊎◌, ◌++◌, ℕ, true, false, List, [], ◌∷◌, None, Option, Some, codes, option_map}
use Rattle.lbk_feed.specs.declared.traits.Source.{Ghosts as SourceMembers}
use Rattle.lbk_files.specs.FileStore.{AreLeft}
use Rattle.lbk_files.specs.Store.{IsUnreadable}
use Rattle.lbk_cmd.specs.Devices.{Devices}
use Rattle.lbk_cmd.specs.Ending.{ending_after, is_last}
use Rattle.lbk_cmd.specs.declared.ending.Ending.{Ending}
use Rattle.lbk_cmd.specs.declared.ending.Ending.TheVariants.{Done, Refused}
use Rattle.lbk_cmd.specs.declared.ending.RunFault.{RunFault}
use Rattle.lbk_cmd.specs.declared.ending.RunFault.TheVariants.{Memory, Open}

-- the refused names, in order, each with its fault, if this is told
abbrev pub Refusals : Type 0
Refusals = Option (List (List ℕ × RunFault))

-- the state of a run: its devices, what was refused, and how it ends if no other text is read
pub record Standing : Type 0 where
  pub devices : Devices
  pub refused : Refusals
  pub ending : Ending

abbrev pub standing : Devices → Refusals → Ending → Standing
standing devices refused ending = record { devices = devices; refused = refused; ending = ending }

-- the devices of a run with a file as its reader
abbrev pub over_file : {F : Type 0} → SourceMembers F → F → Devices → Devices
over_file source file devices = record {
  unread = source.unread file;
  reads = source.reads_made file;
  failed_reads = source.failure_count file;
  has_ended = source.has_ended file;
  written = devices.written;
  failed_writes = devices.failed_writes;
}

-- the run reads a file instead of its reader, which stays as it was: from the file as it was opened, with all bytes
-- unread, if these are told, to the file as the run left it. Both are values of the type of files; generic code gets
-- these only by opening a file and by reading it
pub record ReadsFile {F : Type 0} (source : SourceMembers F) (told : Option (Option (List ℕ)))
    (Runs : Devices → Devices → Ending → Type 0)
    (before after : Devices) (ending : Ending) : Type 0 where
  pub opened : F
  pub left : F
  pub whole : AreLeft told (source.unread opened)
  pub runs : Runs (over_file source opened before) (over_file source left after) ending
  pub is : after ≡ record before { written = after.written; failed_writes = after.failed_writes }

-- a file cannot be opened: nothing is read or written
pub record IsUnopened (told : Option (Option (List ℕ))) (before after : Devices) (ending : Ending) : Type 0 where
  pub is : after ≡ before
  pub fault : ((ending ≡ Refused Open) × IsUnreadable told) ⊎ (ending ≡ Refused Memory)

-- the text with a name, and `Runs` says what runs over it: `-` is the run's reader, any other name is that of a file
abbrev pub ReadsText : {F : Type 0} → SourceMembers F → (List ℕ → Option (Option (List ℕ)))
    → (List ℕ → Devices → Devices → Ending → Type 0) → List ℕ → Devices → Devices → Ending → Type 0
ReadsText source told Runs name before after ending = ((name ≡ codes "-") × Runs name before after ending)
    ⊎ ((name ≢ codes "-") × (IsUnopened (told name) before after ending
    ⊎ ReadsFile source (told name) (Runs name) before after ending))

-- what was refused, after a text that ended so
abbrev pub refused_after : Refusals → List ℕ → Ending → Refusals
refused_after refused name (Refused fault) = option_map (λ before. before ++ (name, fault) ∷ []) refused
refused_after refused name _ = refused

-- the texts in order, each once, up to the one after which the run stops; what was refused is reported, and the run
-- goes on
abbrev pub ReadsEach : (List ℕ → Devices → Devices → Ending → Type 0) → List (List ℕ) → Standing → Standing → Type 0
ReadsEach ReadsOne [] before after = after ≡ before
ReadsEach ReadsOne (name ∷ names) before after =
    (devices : Devices) × (ending : Ending) × ReadsOne name before.devices devices ending
    × (((is_last ending ≡ true) × (after ≡ standing devices before.refused ending))
    ⊎ ((is_last ending ≡ false) × ReadsEach ReadsOne names
    (standing devices (refused_after before.refused name ending) (ending_after before.ending ending)) after))

abbrev pub ReadsTexts : {F : Type 0} → SourceMembers F → (List ℕ → Option (Option (List ℕ)))
    → (List ℕ → Devices → Devices → Ending → Type 0) → List (List ℕ) → Standing → Standing → Type 0
ReadsTexts source told Runs = ReadsEach (ReadsText source told Runs)

-- the run's reader if no text is named, else the texts
abbrev pub Reads : {F : Type 0} → SourceMembers F → (List ℕ → Option (Option (List ℕ)))
    → (List ℕ → Devices → Devices → Ending → Type 0) → List (List ℕ) → Standing → Standing → Type 0
Reads source told Runs [] before after =
    Runs (codes "-") before.devices after.devices after.ending × (after.refused ≡ before.refused)
Reads source told Runs (name ∷ names) before after = ReadsTexts source told Runs (name ∷ names) before after

-- a run over texts, from the state in which it begins to that in which it ends; the content of the texts stays
pub record RunsTexts {T : Type 0} (refused : T → Refusals) (told : T → List ℕ → Option (Option (List ℕ))) (old new : T)
    (before after : Devices) (ending : Ending) (Runs : Standing → Standing → Type 0) : Type 0 where
  pub runs : Runs (standing before (refused old) Done) (standing after (refused new) ending)
  pub contents : told new ≡ told old

-- without files none of these can be opened; `-` is the run's reader
abbrev pub ReadsNoFile : (List ℕ → Devices → Devices → Ending → Type 0) → List ℕ → Devices → Devices → Ending → Type 0
ReadsNoFile Runs name before after ending = ((name ≡ codes "-") × Runs name before after ending)
    ⊎ ((name ≢ codes "-") × IsUnopened (Some None) before after ending)

-- the run's reader if no text is named, else the texts, none of which can be opened
abbrev pub ReadsAlone : (List ℕ → Devices → Devices → Ending → Type 0) → List (List ℕ) → Devices → Devices → Ending
    → Type 0
ReadsAlone Runs [] before after ending = Runs (codes "-") before after ending
ReadsAlone Runs (name ∷ names) before after ending =
    ReadsEach (ReadsNoFile Runs) (name ∷ names) (standing before None Done) (standing after None ending)
