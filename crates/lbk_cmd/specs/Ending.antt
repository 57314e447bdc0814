-- How a run ends, by the step that ended it, and the exit status of each ending.
use Rattle.std.specs.Prelude.{ℕ, ◌||◌, Bool, true, false, Result, Ok, Err, if◌then◌else◌, nat_lt}
use Rattle.lbk_notation.specs.declared.findings.Report.{Report}
use Rattle.lbk_notation.specs.declared.findings.ReplayFault.{ReplayFault}
use Rattle.lbk_notation.specs.declared.findings.ReplayFault.TheVariants as replay
use Rattle.lbk_passage.specs.declared.faults.PassageFault.TheVariants as passage
use Rattle.lbk_files.specs.declared.faults.CellsFault.{CellsFault}
use Rattle.lbk_files.specs.declared.faults.CellsFault.TheVariants as cells
use Rattle.lbk_files.specs.declared.faults.NotReady.{NotReady}
use Rattle.lbk_files.specs.declared.faults.NotReady.TheVariants as stop
use Rattle.lbk_cmd.specs.declared.faults.CmdFault.{CmdFault}
use Rattle.lbk_cmd.specs.declared.ending.Ending.{Ending}
use Rattle.lbk_cmd.specs.declared.ending.Ending.TheVariants.{Done, Help, Usage, Differs, Refused, Reported}
use Rattle.lbk_cmd.specs.declared.faults.CmdFault.TheVariants as cmd
use Rattle.lbk_cmd.specs.declared.ending.RunFault.TheVariants.{Load, Claim, Tables, Cmd, Replay, Memory}

-- 0 done or help, 1 a refusal, 2 invalid arguments, 3 a replay with lines that differ or are refused
abbrev pub status_of : Ending → ℕ
status_of Done = 0
status_of (Help text) = 0
status_of (Usage text) = 2
status_of (Differs report) = 3
status_of (Refused fault) = 1
status_of Reported = 1

-- the run stops after a text that ended so: the output cannot be written, or an allocation failed
abbrev pub is_last : Ending → Bool
is_last (Refused Memory) = true
is_last (Refused (Cmd cmd.Write)) = true
is_last (Refused (Cmd cmd.Memory)) = true
is_last (Refused (Cmd (cmd.Passage passage.Memory))) = true
is_last (Refused (Replay replay.Write)) = true
is_last (Refused (Replay replay.Memory)) = true
is_last _ = false

-- the ending of a run over texts, from that of the earlier texts and of one more, whose refusal is reported; of files
-- that differ, that of the first
abbrev pub ending_after : Ending → Ending → Ending
ending_after before (Refused fault) = Reported
ending_after Done next = next
ending_after before _ = before

-- files that gave no cells
abbrev pub ending_of_files : CellsFault → Ending
ending_of_files (cells.Load which) = Refused (Load which)
ending_of_files (cells.Claim which cause) = Refused (Claim which cause)
ending_of_files (cells.Tables fault) = Refused (Tables fault)
ending_of_files cells.Memory = Refused Memory

-- a stop before an engine ran
abbrev pub ending_of_stop : NotReady → Ending
ending_of_stop (stop.Help text) = Help text
ending_of_stop (stop.Usage text) = Usage text
ending_of_stop (stop.Refused fault) = ending_of_files fault

-- `mark`, `show` and `segment`
abbrev pub ending_of_text : Result (Unit {0}) CmdFault → Ending
ending_of_text (Ok _) = Done
ending_of_text (Err fault) = Refused (Cmd fault)

-- a line of the report differs or was refused
abbrev pub has_difference : Report → Bool
has_difference report = nat_lt 0 report.differed || nat_lt 0 report.refused

-- `replay`
abbrev pub ending_of_replay : Result Report ReplayFault → Ending
ending_of_replay (Ok report) = if has_difference report then Differs report else Done
ending_of_replay (Err fault) = Refused (Replay fault)
