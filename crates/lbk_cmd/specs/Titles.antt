-- The name of a text in the output, if the arguments ask for names: in a line before its output, or in its objects.
use Rattle.std.specs.Prelude.{◌≡◌, ◌⊎◌, ℕ, Bool, true, false, List, [], ◌∷◌, ◌++◌, Option, None, Some, Result, Ok, Err, codes, take}
use Rattle.std.specs.Prelude.{◌&&◌, not, if◌then◌else◌}
use Rattle.std.specs.Io.KnownBytes.{Appends}
use Rattle.lbk_args.specs.declared.order.Engine.{Engine}
use Rattle.lbk_args.specs.declared.order.Engine.TheVariants.{Chunk}
use Rattle.lbk_cmd.specs.Devices.{Devices}
use Rattle.lbk_cmd.specs.Ending.{ending_of_text}
use Rattle.lbk_cmd.specs.Message.{operand_text}
use Rattle.lbk_cmd.specs.Run.{failed_writes_with}
use Rattle.lbk_cmd.specs.declared.ending.Ending.{Ending}
use Rattle.lbk_cmd.specs.declared.faults.CmdFault.{CmdFault}
use Rattle.lbk_cmd.specs.declared.faults.CmdFault.TheVariants.{Passage, Write, Memory}

-- whether the line comes: objects of `chunk` have the name in them
abbrev pub has_title : Bool → Engine → Bool
has_title names (Chunk limit sizes texts) = names && not texts
has_title names _ = names

-- the name for objects
abbrev pub file_of : Bool → List ℕ → Option (List ℕ)
file_of names name = if names then Some name else None

-- ==> FILE <==
abbrev pub title : List ℕ → List ℕ
title name = codes "==> " ++ (operand_text name ++ (codes " <==" ++ 10 ∷ []))

-- the line was written; or a write failed after a prefix of it; or memory could not grow for it, and nothing was
-- written
abbrev pub IsTitleWritten : List ℕ → Option (List ℕ) → Option (List ℕ) → Result (Unit {0}) CmdFault → Type 0
IsTitleWritten name old new (Ok _) = Appends old new (title name)
IsTitleWritten name old new (Err Write) = (n : ℕ) × Appends old new (take n (title name))
IsTitleWritten name old new (Err Memory) = new ≡ old
IsTitleWritten name old new (Err (Passage fault)) = ⊥

-- the line is written with this result, and nothing is read
pub record WritesTitle (name : List ℕ) (before after : Devices) (answer : Result (Unit {0}) CmdFault) : Type 0 where
  pub written : IsTitleWritten name before.written after.written answer
  pub failed_writes : after.failed_writes ≡ failed_writes_with before.failed_writes answer
  pub reader : after ≡ record before { written = after.written; failed_writes = after.failed_writes }

-- a run after the line with the text's name; if this could not be written, the run ends there
abbrev pub RunsTitled : (Devices → Devices → Ending → Type 0) → List ℕ → Devices → Devices → Ending → Type 0
RunsTitled Runs name before after ending =
    ((titled : Devices) × WritesTitle name before titled (Ok tt) × Runs titled after ending)
    ⊎ ((fault : CmdFault) × WritesTitle name before after (Err fault) × (ending ≡ ending_of_text (Err fault)))

-- a run over the text with a name, with such a line or without
abbrev pub RunsNamed : Bool → (Devices → Devices → Ending → Type 0) → List ℕ → Devices → Devices → Ending → Type 0
RunsNamed false Runs name = Runs
RunsNamed true Runs name = RunsTitled Runs name
