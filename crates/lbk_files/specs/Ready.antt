-- What the arguments of the program result in before an engine runs.
use Rattle.std.specs.Prelude.{◌≡◌, ◌⊎◌, ℕ, List, Option, map}
use Rattle.lbk_args.specs.Accepted.{faults_of}
use Rattle.lbk_args.specs.Refusal.{HasFault, IsCallForHelp, IsMistake}
use Rattle.lbk_args.specs.Task.{Task}
use Rattle.lbk_files.specs.PropertyValues.{AreCellsBy, IsValuesFault}
use Rattle.lbk_files.specs.TaskCells.{cell_of_task}
use Rattle.lbk_files.specs.Store.{LoadCounts}
use Rattle.lbk_files.specs.declared.faults.CellsFault.TheVariants.{Memory}
use Rattle.lbk_files.specs.declared.faults.NotReady.{NotReady}
use Rattle.lbk_files.specs.declared.faults.NotReady.TheVariants.{Help, Usage, Refused}
use Rattle.lbk_files.specs.declared.readiness.Ready.{Ready}

-- the task's engine, profile, range, sign and `--names`, the cells of its property values, and the names of its texts
pub record IsReadyFor (file : List ℕ → Option (Option (List ℕ))) (task : Task) (before after : LoadCounts)
    (ready : Ready) : Type 0 where
  pub engine : ready.engine ≡ task.engine
  pub profile : ready.profile ≡ task.profile
  pub part : ready.part ≡ task.part
  pub sign : ready.sign.now ≡ task.sign
  pub names : ready.names ≡ task.names
  pub cells : AreCellsBy file task.values before after (cell_of_task ready.cells)
  pub texts : map (λ name. name.now) ready.texts.items ≡ task.texts

-- a task stops at its property values, or before any load, if memory for its arguments ran out
abbrev pub IsStoppedAt : (List ℕ → Option (Option (List ℕ))) → Task → LoadCounts → LoadCounts → NotReady → Type 0
IsStoppedAt file task before after (Help text) = ⊥
IsStoppedAt file task before after (Usage text) = ⊥
IsStoppedAt file task before after (Refused fault) =
    ((fault ≡ Memory) × (after ≡ before)) ⊎ IsValuesFault file task.values before after fault

-- out of memory, before any load
abbrev pub IsWantOfMemory : NotReady → Type 0
IsWantOfMemory stop = stop ≡ Refused Memory

-- arguments that are not accepted: help for a request for it, usage for a mistake, or out of memory
abbrev pub IsStoppedByWords : List (List ℕ) → NotReady → Type 0
IsStoppedByWords words (Help text) = HasFault IsCallForHelp (faults_of words)
IsStoppedByWords words (Usage text) = HasFault IsMistake (faults_of words)
IsStoppedByWords words (Refused fault) = fault ≡ Memory
