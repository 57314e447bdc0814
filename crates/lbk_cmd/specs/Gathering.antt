-- Lines that are buffered until the next read.
use Rattle.std.specs.Prelude.{◌≡◌, ◌⊎◌, ℕ, ◌+◌, Bool, true, false, List, [], ◌++◌, length, Option, None, Some, Result}
use Rattle.std.specs.Prelude.{◌<◌, Ok, Err, OnOk, vec_len}
use Rattle.std.specs.Io.KnownBytes.{Appends}
use Rattle.lbk_feed.specs.Devices.{Reads}
use Rattle.lbk_feed.specs.declared.traits.Source.{Ghosts as SourceMembers}
use Rattle.lbk_passage.specs.Marks.{Marked}
use Rattle.lbk_passage.specs.Next.{AfterNext, IsPassage, failures_with, fault_in}
use Rattle.lbk_passage.specs.Passages.{is_must}
use Rattle.lbk_passage.specs.State.{State}
use Rattle.lbk_passage.specs.declared.faults.PassageFault.{PassageFault}
use Rattle.lbk_passage.specs.declared.passage.Passage.{Passage as LentPassage}
use Rattle.lbk_rules.specs.declared.Verdict.{Verdict}
use Rattle.lbk_cmd.specs.Run.{Engine}
use Rattle.lbk_cmd.specs.declared.gathered.Gathered.{Gathered}
use Rattle.lbk_cmd.specs.declared.faults.CmdFault.{CmdFault}
use Rattle.lbk_cmd.specs.declared.faults.CmdFault.TheVariants.{Memory, Passage}

-- the buffered lines were written, and none is left
abbrev pub HasWritten : Option (List ℕ) → Option (List ℕ) → List ℕ → List ℕ → Type 0
HasWritten written written' before after = (after ≡ []) × Appends written written' before

-- after a call that writes, fewer bytes of lines than `room` are buffered; the next passage is the same
pub record Leaves {Y : Type 0} (room : ℕ) (old new : Gathered) (result : Result (Unit {0}) Y) : Type 0 where
  pub few : OnOk result (vec_len new.lines < room)
  pub at : new.at ≡ old.at

-- the lines of the passage that a segmenter lent were appended to the buffer, if one was lent and memory could grow for
-- them; `at` is then the offset after it
abbrev pub Puts : Engine → State → Result (Option LentPassage) PassageFault → List ℕ → List ℕ → ℕ
    → Result Bool CmdFault → Type 0
Puts e s (Ok None) before after at answer = (answer ≡ Ok false) × (after ≡ before)
Puts e s (Ok (Some p)) before after at answer =
    ((answer ≡ Ok true) × (at ≡ p.start + length p.text.now)
    × ((ms : List Marked) → s.cell ≡ e.cell → s.profile ≡ e.profile → IsPassage s ms p → after ≡ before
    ++ e.lines p.start ms))
    ⊎ ((answer ≡ Err Memory) × (after ≡ before))
Puts e s (Err why) before after at answer = (answer ≡ Err (Passage why)) × (after ≡ before)

-- lines were appended to the buffer, which are those of each passage that has this text and ends by this verdict
abbrev pub PutsText : Engine → List ℕ → Verdict → List ℕ → List ℕ → Type 0
PutsText e text end before after = (s : State) (ms : List Marked) (p : LentPassage) → s.cell ≡ e.cell
    → s.profile ≡ e.profile → IsPassage s ms p → p.text.now ≡ text → p.end ≡ end → is_must end.kind ≡ true
    → after ≡ before ++ e.lines p.start ms

-- the state after a call that appends the lines of the next passage to the buffer, by what a segmenter would lend
pub record PutsNext (e : Engine) (old new : State) (unread unread' : Option (List ℕ)) (ended ended' : Bool)
    (reads reads' : Reads) (failures failures' : ℕ)
    (before after : List ℕ) (at : ℕ) (answer : Result Bool CmdFault) : Type 0 where
  pub lent : Result (Option LentPassage) PassageFault
  pub next : AfterNext old new unread unread' ended ended' reads reads' lent
  pub failed : failures' ≡ failures_with failures (fault_in lent)
  pub puts : Puts e old lent before after at answer

-- the same with a reader, which is left alone if the bytes read settle the passage
pub record PutsRead {R : Type 0} (source : SourceMembers R) (e : Engine) (old new : State) (reader reader' : R)
    (before after : List ℕ) (at : ℕ) (answer : Result Bool CmdFault) : Type 0 where
  pub puts : PutsNext e old new (source.unread reader) (source.unread reader')
      (source.has_ended reader) (source.has_ended reader') (source.reads_made reader) (source.reads_made reader')
      (source.failure_count reader) (source.failure_count reader') before after at answer
  pub settled : old.is_settled ≡ true → reader' ≡ reader

-- how a run ends after such a result, if it does
abbrev pub end_of : Result Bool CmdFault → Option (Result (Unit {0}) CmdFault)
end_of (Ok true) = None
end_of (Ok false) = Some (Ok (tt {0}))
end_of (Err why) = Some (Err why)
