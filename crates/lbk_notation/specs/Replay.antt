-- What a replay writes and returns, by what it read.
use Rattle.std.specs.Prelude.{◌≡◌, ℕ, ◌+◌, ◌<◌, ◌≤◌, Bool, true, false, List, ◌++◌, length, take, Option, None, Some}
use Rattle.std.specs.Prelude.{Result, Ok, Err, IsErrOf, IsTrue, OnOk}
use Rattle.std.specs.Io.KnownBytes.{Appends, IsAtEnd}
use Rattle.lbk_rules.specs.declared.Cell.{Cell}
use Rattle.lbk_values.specs.declared.profile.Profile.{Profile}
use Rattle.lbk_notation.specs.declared.findings.Finding.{Finding}
use Rattle.lbk_notation.specs.declared.findings.Report.{Report}
use Rattle.lbk_notation.specs.declared.findings.ReplayFault.{ReplayFault}
use Rattle.lbk_notation.specs.declared.findings.ReplayFault.TheVariants.{Read, Write, Memory, StreamTooLong}
use Rattle.lbk_notation.specs.declared.marks.Form.{Form}
use Rattle.lbk_notation.specs.Findings.{AreFindings}
use Rattle.lbk_notation.specs.ReplayText.{text_from, report_of, total_text}
use Rattle.lbk_feed.specs.Devices.{Reads, count_up}
use Rattle.lbk_feed.specs.Runs.{HasFailed, IsStopped}
use Rattle.lbk_feed.specs.declared.traits.Sink.{Ghosts as SinkMembers}
use Rattle.lbk_feed.specs.declared.traits.Source.{Ghosts as SourceMembers}
use Rattle.lbk_notation.specs.Stream.{ended_lines, lines_of, longest_stream}

-- the output for the lines that an LF ends
pub record IsEndedText (cell : ℕ → Cell) (form : Form) (profile : Profile) (bytes out : List ℕ) : Type 0 where
  pub findings : List Finding
  pub are : AreFindings cell form profile (ended_lines bytes) findings
  pub text : out ≡ text_from form 1 findings

-- the output for a file of exactly these bytes, and its report
pub record IsReplayText (cell : ℕ → Cell) (form : Form) (profile : Profile) (bytes : List ℕ) (report : Report)
    (out : List ℕ) : Type 0 where
  pub findings : List Finding
  pub are : AreFindings cell form profile (lines_of bytes) findings
  pub counts : report ≡ report_of findings
  pub text : out ≡ text_from form 1 findings ++ total_text report

-- the file fits, and its replay text was written
pub record IsReplayed (cell : ℕ → Cell) (form : Form) (profile : Profile) (input : List ℕ) (report : Report)
    (written written' : Option (List ℕ)) : Type 0 where
  pub fits : length input ≤ longest_stream
  pub out : List ℕ
  pub text : IsReplayText cell form profile input report out
  pub put : Appends written written' out

abbrev pub is_read_fault : Result Report ReplayFault → Bool
is_read_fault (Err Read) = true
is_read_fault _ = false

-- the fault of a result
abbrev pub fault_in : {X : Type 0} → Result X ReplayFault → Option ReplayFault
fault_in (Ok x) = None
fault_in (Err fault) = Some fault

-- the counts of a reader's and of a writer's failures after a call: one more exactly if the call returned that
abbrev pub failed_reads_with : ℕ → Option ReplayFault → ℕ
failed_reads_with n (Some Read) = count_up n
failed_reads_with n _ = n

abbrev pub failed_writes_with : ℕ → Option ReplayFault → ℕ
failed_writes_with n (Some Write) = count_up n
failed_writes_with n _ = n

-- a call returned `Read`, or `Write`, exactly if its reader, or its writer, failed: in its last call, and in no other
pub record TellsReads {X : Type 0} (old new : ℕ) (result : Result X ReplayFault) : Type 0 where
  pub read : IsErrOf result Read → HasFailed old new
  pub read_failed : old < new → result ≡ Err Read
  pub failed_reads : new ≡ failed_reads_with old (fault_in result)

pub record TellsWrites {X : Type 0} (old new : ℕ) (result : Result X ReplayFault) : Type 0 where
  pub write : IsErrOf result Write → HasFailed old new
  pub write_failed : old < new → result ≡ Err Write
  pub failed_writes : new ≡ failed_writes_with old (fault_in result)
  pub none_failed : OnOk result (new ≡ old)

-- what a run of a replay does to its reader and its writer: it fails exactly if one of them did, and reads to the end
-- if it succeeds
pub record UsesDevices {R W X : Type 0} (source : SourceMembers R) (sink : SinkMembers W) (reader reader' : R)
    (writer writer' : W) (result : Result X ReplayFault) : Type 0 where
  pub ended : OnOk result (IsTrue (source.has_ended reader') × IsAtEnd (source.unread reader'))
  pub of_reader : TellsReads (source.failure_count reader) (source.failure_count reader') result
  pub of_writer : TellsWrites (sink.failure_count writer) (sink.failure_count writer') result
  pub reads : (source.reads_made reader').count ≤ (source.reads_made reader).count + (longest_stream + 1)

-- stopped: the output is a prefix of that of the lines that ended before some offset, or, once the end was reached, of
-- the replay text
abbrev pub IsStoppedReplay : (ℕ → Cell) → Form → Profile → Type 0 → List ℕ → List ℕ → Type 0
IsStoppedReplay cell form profile ended read out =
    IsStopped (IsEndedText cell form profile)
    (λ bytes all. (report : Report) × IsReplayText cell form profile bytes report all)
    ended read out

-- out of memory: the output is that of the lines that ended before some offset, or, once the end was reached, that of
-- all lines, without the counts
pub data IsOutOfMemory (cell : ℕ → Cell) (form : Form) (profile : Profile) (ended : Type 0)
    (read out : List ℕ) : Type 0 where
  between_lines : (first later : List ℕ) → read ≡ first ++ later → IsEndedText cell form profile first out
      → IsOutOfMemory cell form profile ended read out
  uncounted : (report : Report) → ended → IsReplayText cell form profile read report (out ++ total_text report)
      → IsOutOfMemory cell form profile ended read out

-- what was written, by what was read and by the result; `ended`: the end was reached
abbrev pub IsReplay : (ℕ → Cell) → Form → Profile → Type 0 → Result Report ReplayFault → List ℕ → List ℕ → Type 0
IsReplay cell form profile ended (Ok report) read out =
    (length read ≤ longest_stream) × IsReplayText cell form profile read report out
IsReplay cell form profile ended (Err Read) read out =
    (length read ≤ longest_stream) × IsEndedText cell form profile read out
IsReplay cell form profile ended (Err StreamTooLong) read out =
    (longest_stream < length read) × IsEndedText cell form profile (take longest_stream read) out
IsReplay cell form profile ended (Err Write) read out =
    IsStoppedReplay cell form profile ended (take longest_stream read) out
IsReplay cell form profile ended (Err Memory) read out =
    IsOutOfMemory cell form profile ended (take longest_stream read) out

-- nothing is held back: the output of the lines that end in the bytes of all reads except the last, at least one each,
-- was written; `from` and `to` are the reads before the run and after it
pub record KeepsUp (cell : ℕ → Cell) (form : Form) (profile : Profile) (from to : Reads)
    (read out : List ℕ) : Type 0 where
  pub before : List ℕ
  pub last : List ℕ
  pub split : read ≡ before ++ last
  pub is_last : length last ≡ to.gave
  pub each_gave : to.count ≤ from.count + (length before + 1)
  pub written : List ℕ
  pub later : List ℕ
  pub is : out ≡ written ++ later
  pub settled : IsEndedText cell form profile before written

-- what a replay reads and writes, whatever the result
pub record IsReplayRun (cell : ℕ → Cell) (form : Form) (profile : Profile) (from to : Reads) (ended : Type 0)
    (answer : Result Report ReplayFault) (read out : List ℕ) : Type 0 where
  pub comes : IsReplay cell form profile ended answer read out
  pub keeps_up : KeepsUp cell form profile from to read out
