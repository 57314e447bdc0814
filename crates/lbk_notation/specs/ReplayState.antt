-- The state of a replay, and its steps.
use Rattle.std.specs.Prelude.{◌≡◌, ℕ, ◌+◌, ◌<◌, ◌≤◌, Bool, true, false, List, [], ◌++◌, length, Option, Result, Ok}
use Rattle.std.specs.Prelude.{◌⊎◌, Err, IfErr, MatchResult}
use Rattle.std.specs.Io.KnownBytes.{Appends}
use Rattle.lbk_feed.specs.Devices.{Reads}
use Rattle.lbk_feed.specs.declared.traits.Sink.{Ghosts as SinkMembers}
use Rattle.lbk_rules.specs.declared.Cell.{Cell}
use Rattle.lbk_values.specs.declared.profile.Profile.{Profile}
use Rattle.lbk_notation.specs.declared.findings.Finding.{Finding}
use Rattle.lbk_notation.specs.declared.findings.Report.{Report}
use Rattle.lbk_notation.specs.declared.findings.ReplayFault.{ReplayFault}
use Rattle.lbk_notation.specs.declared.findings.ReplayFault.TheVariants.{Read, Memory, Write}
use Rattle.lbk_notation.specs.declared.replay_state.ReplayState.{ReplayState}
use Rattle.lbk_notation.specs.declared.marks.Form.{Form}
use Rattle.lbk_notation.specs.Fault.{longest}
use Rattle.lbk_notation.specs.Counted.{counted}
use Rattle.lbk_notation.specs.Findings.{IsFinding, AreFindings}
use Rattle.lbk_notation.specs.Replay.{IsOutOfMemory, IsReplayRun, IsReplayText, IsStoppedReplay, TellsWrites}
use Rattle.lbk_notation.specs.ReplayText.{finding_text, text_from, report_of}
use Rattle.lbk_notation.specs.Stream.{cut_of, ended_lines, lines_of}

-- what is held of the bytes after the last LF: all of them, or only that they are more than a line may have
abbrev pub Holds : List ℕ → List ℕ → Bool → Type 0
Holds rest line false = (line ≡ rest) × (length rest ≤ longest)
Holds rest line true = longest < length rest

-- the bytes taken so far, and the output of the lines that they end
pub record Stands (cell : ℕ → Cell) (form : Form) (profile : Profile) (progress : ReplayState)
    (used out : List ℕ) : Type 0 where
  pub taken : progress.taken ≡ length used
  pub held : Holds (cut_of used).rest progress.line.items progress.is_long
  pub findings : List Finding
  pub are : AreFindings cell form profile (ended_lines used) findings
  pub number : progress.number ≡ length findings
  pub counts : progress.report ≡ report_of findings
  pub text : out ≡ text_from form 1 findings

-- the output of all lines of the file was written, except the counts
pub record StandsAtEnd (cell : ℕ → Cell) (form : Form) (profile : Profile) (progress : ReplayState)
    (used out : List ℕ) : Type 0 where
  pub findings : List Finding
  pub are : AreFindings cell form profile (lines_of used) findings
  pub counts : progress.report ≡ report_of findings
  pub text : out ≡ text_from form 1 findings

-- a line ended, with a result
pub record Settles (cell : ℕ → Cell) (form : Form) (profile : Profile) (old new : ReplayState) : Type 0 where
  pub finding : Finding
  pub found : (rest : List ℕ) → Holds rest old.line.items old.is_long → IsFinding cell form profile rest finding
  pub line : new.line.items ≡ []
  pub is_short : new.is_long ≡ false
  pub taken : new.taken ≡ old.taken
  pub number : new.number ≡ old.number + 1
  pub counts : new.report ≡ counted old.report finding
  pub text : new.text.items ≡ finding_text form (old.number + 1) finding

-- stopped because memory ran out, or by a fault of the writer
abbrev pub IsStoppedBy : (ℕ → Cell) → Form → Profile → Type 0 → ReplayFault → List ℕ → List ℕ → Type 0
IsStoppedBy cell form profile ended Memory read out = IsOutOfMemory cell form profile ended read out
IsStoppedBy cell form profile ended fault read out = IsStoppedReplay cell form profile ended read out

-- a call that only writes: it returns no other fault than `Memory` or `Write`, by the failures of its writer
pub record OnlyWrites {X : Type 0} (old new : ℕ) (result : Result X ReplayFault) : Type 0 where
  pub only : IfErr result (λ fault. (fault ≡ Memory) ⊎ (fault ≡ Write))
  pub writes : TellsWrites old new result

-- what a call that takes some bytes writes
pub record Uses (cell : ℕ → Cell) (form : Form) (profile : Profile) (old new : ReplayState) (bytes : List ℕ)
    (written written' : Option (List ℕ)) (result : Result Unit ReplayFault) : Type 0 where
  pub text : List ℕ
  pub put : Appends written written' text
  pub so : (used out : List ℕ) → Stands cell form profile old used out
      → MatchResult result (λ _. Stands cell form profile new (used ++ bytes) (out ++ text))
      (λ fault. IsStoppedBy cell form profile ⊥ fault (used ++ bytes) (out ++ text))

-- the same, and when the call fails
pub record UsesWriter {W : Type 0} (sink : SinkMembers W) (cell : ℕ → Cell) (form : Form) (profile : Profile)
    (old new : ReplayState) (bytes : List ℕ) (writer writer' : W) (result : Result Unit ReplayFault) : Type 0 where
  pub uses : Uses cell form profile old new bytes (sink.written writer) (sink.written writer') result
  pub faults : OnlyWrites (sink.failure_count writer) (sink.failure_count writer') result

-- what the call that ends the file writes
pub record Ends (cell : ℕ → Cell) (form : Form) (profile : Profile) (old : ReplayState)
    (written written' : Option (List ℕ))
    (result : Result Report ReplayFault) : Type 0 where
  pub text : List ℕ
  pub put : Appends written written' text
  pub so : (used out : List ℕ) → Stands cell form profile old used out
      → MatchResult result (λ report. IsReplayText cell form profile used report (out ++ text))
      (λ fault. IsStoppedBy cell form profile (Unit {0}) fault used (out ++ text))

abbrev pub is_read_fault_of : Result ReplayState ReplayFault → Bool
is_read_fault_of (Err Read) = true
is_read_fault_of _ = false

-- what was read up to the end of the stream, or up to a fault, and the output for it; at the end the last read returned
-- no byte, and each of the others at least one
abbrev pub HasRead : (ℕ → Cell) → Form → Profile → Reads → Reads → Result ReplayState ReplayFault → List ℕ → List ℕ
    → Type 0
HasRead cell form profile from to (Ok progress) read out =
    (to.gave ≡ 0) × (to.count ≤ from.count + (length read + 1)) × Stands cell form profile progress read out
HasRead cell form profile from to (Err fault) read out = IsReplayRun cell form profile from to ⊥ (Err fault) read out
