-- What `show` does over a writer in memory.
use Rattle.std.proofs.Common.{List, ℕ, Option, Result, Err, refl, subst}
use Rattle.lbk_cmd.specs.Acts.{TextRuns}
use Rattle.lbk_cmd.specs.Broken.{with_failed_write}
use Rattle.lbk_cmd.specs.Devices.{Devices}
use Rattle.lbk_cmd.specs.Run.{Writing}
use Rattle.lbk_cmd.specs.declared.faults.CmdFault.{CmdFault}
use Rattle.lbk_cmd.specs.declared.faults.CmdFault.TheVariants as cmd
use Rattle.std.specs.Prelude.{◌≡◌, None}

-- the same over a writer that tells nothing and did not fail
abbrev pub untold : Devices → Devices
untold d = record d { written = None; failed_writes = 0 }

-- a write failed of the lines in memory
unwritten : (text : List ℕ → Option (List ℕ) → Option (List ℕ) → Type 0) (e : Writing) (before after : Devices)
    → TextRuns text e before after (Err cmd.Write) → TextRuns text e (untold before) (with_failed_write (untold after)) (Err cmd.Write)
unwritten text e before after t = record {
  shown = tt;
  ended = tt;
  run = record { read = t.run.read; out = t.run.out; took = t.run.took; put = tt; so = record { comes = t.run.so.comes; keeps_up = t.run.so.keeps_up } };
  reads = t.reads;
  limit = t.limit;
  failed_reads = t.failed_reads;
  failed_writes = refl;
}

pub untold_unwritten : (text : List ℕ → Option (List ℕ) → Option (List ℕ) → Type 0) (e : Writing) (before after : Devices) (answer : Result (Unit {0}) CmdFault) → answer ≡ Err cmd.Write
    → TextRuns text e before after answer → TextRuns text e (untold before) (with_failed_write (untold after)) (Err cmd.Write)
untold_unwritten text e before after answer is t = unwritten text e before after (subst (TextRuns text e before after) is t)
