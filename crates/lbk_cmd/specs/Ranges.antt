-- What is read and written for a range of a text: for the passages that begin in a range of its bytes.
use Rattle.std.specs.Prelude.{◌≡◌, ◌⊎◌, ◌&&◌, ℕ, ◌+◌, ◌<◌, ◌≤◌, ◌↔◌, ⊤, Bool, not, List, [], ◌∷◌, ◌++◌, length}
use Rattle.std.specs.Prelude.{Result, Ok, Err, IfSome, IsErrOf, IsTrue, IsUtf8, OnOk, if◌then◌else◌, nat_lt}
use Rattle.std.specs.Prelude.{encode_utf8_all}
use Rattle.std.specs.List.{flat_map}
use Rattle.std.specs.Str.{chars}
use Rattle.std.specs.Io.KnownBytes.{Appends, IsAtEnd}
use Rattle.lbk_feed.specs.Devices.{Reads}
use Rattle.lbk_feed.specs.Runs.{Ran}
use Rattle.lbk_feed.specs.Text.{longest_text}
use Rattle.lbk_feed.specs.View.{IsStill}
use Rattle.lbk_passage.specs.Marks.{Marked, scalars_of}
use Rattle.lbk_passage.specs.State.{IsLimit}
use Rattle.lbk_passage.specs.declared.faults.PassageFault.{PassageFault}
use Rattle.lbk_passage.specs.declared.faults.PassageFault.TheVariants as passage
use Rattle.lbk_args.specs.declared.order.Part.{Part}
use Rattle.lbk_cmd.specs.Devices.{Devices}
use Rattle.lbk_cmd.specs.Run.{ComesTo, Engine, IsHeldUp, IsRefused, IsSettled, IsWhole, KeepsUp, Writing, by_passage}
use Rattle.lbk_cmd.specs.Run.{failed_reads_with}
use Rattle.lbk_cmd.specs.Run.{failed_writes_with, is_failed_read, passages_by}
use Rattle.lbk_cmd.specs.Texts.{lines_from}
use Rattle.lbk_cmd.specs.declared.faults.CmdFault.{CmdFault}
use Rattle.lbk_cmd.specs.declared.faults.CmdFault.TheVariants.{Memory, Passage, Write}

-- a passage that begins at this byte of the text begins in the range
abbrev pub begins_in : Part → ℕ → Bool
begins_in part start = not (nat_lt start part.from) && nat_lt start part.to

-- the lines of a passage that begins in the range; no other has any
abbrev pub lines_within : Part → (ℕ → List Marked → List ℕ) → ℕ → List Marked → List ℕ
lines_within part lines start ms = if begins_in part start then lines start ms else []

-- an engine that writes the lines of these passages, with offsets in the whole text, and of no others
abbrev pub within : Part → Engine → Engine
within part e = record e { lines = lines_within part e.lines }

-- the output for the passages that begin at byte `from` or later, and before byte `to`
abbrev pub text_within : (ℕ → List Marked → List ℕ) → ℕ → ℕ → List (List Marked) → List ℕ
text_within lines from to passages = lines_from (lines_within (record { from = from; to = to }) lines) 0 passages

-- adjacent ranges: the first from `from` on, each up to one of these bytes, where the next begins. The output for all
-- of them, whether none ends before it begins, and where the last ends
abbrev pub text_by_ranges : (ℕ → List Marked → List ℕ) → ℕ → List ℕ → List (List Marked) → List ℕ
text_by_ranges lines from [] passages = []
text_by_ranges lines from (to ∷ tos) passages = text_within lines from to passages
    ++ text_by_ranges lines to tos passages

abbrev pub AreRanges : ℕ → List ℕ → Type 0
AreRanges from [] = ⊤
AreRanges from (to ∷ tos) = (from ≤ to) × AreRanges to tos

abbrev pub end_of_ranges : ℕ → List ℕ → ℕ
end_of_ranges from [] = from
end_of_ranges from (to ∷ tos) = end_of_ranges to tos

-- the offset after the settled passages, where the next one begins
abbrev pub next_start : {e : Writing} {bytes out : List ℕ} → IsSettled e bytes out → ℕ
next_start settled = length (encode_utf8_all (flat_map scalars_of settled.given))

-- the range was passed: `out` is the output for passages that some first scalars of the bytes settle, and that reach up
-- to byte `to`
pub record HasPassed (e : Writing) (to : ℕ) (bytes out : List ℕ) : Type 0 where
  pub settled : IsSettled e bytes out
  pub reaches : to ≤ next_start settled

-- a fault of the reader or of the text is in a passage that begins before byte `to`
pub record IsRefusedBefore (e : Writing) (to : ℕ) (why : PassageFault) (ended : Bool)
    (bytes out : List ℕ) : Type 0 where
  pub refused : IsRefused e why ended bytes out
  pub begins : next_start refused.settled < to

-- memory runs out in a passage that begins in the range: those before it are skipped, and nothing grows for them
pub record IsHeldUpWithin (e : Writing) (from to : ℕ) (ended : Bool) (bytes out : List ℕ) : Type 0 where
  pub held_up : IsHeldUp e ended bytes out
  pub late : from ≤ next_start held_up.settled
  pub begins : next_start held_up.settled < to

-- what was read and what was written, by the result: as in a run over the whole text, except that no more has to be
-- read once the range was passed, and that no passage after it is refused. `ended`: a read has returned no byte;
-- `AtEnd`: the text was read to its end
abbrev pub RangeComesTo : {X : Type 0} → Writing → ℕ → ℕ → Bool → Type 0 → Result X CmdFault → List ℕ → List ℕ → Type 0
RangeComesTo e from to ended AtEnd (Ok x) bytes out = (AtEnd × IsWhole e bytes out) ⊎ HasPassed e to bytes out
RangeComesTo e from to ended AtEnd (Err (Passage passage.Limit)) bytes out = (bytes ≡ []) × (out ≡ [])
RangeComesTo e from to ended AtEnd (Err (Passage passage.Memory)) bytes out = ((bytes ≡ []) × (out ≡ []))
    ⊎ IsHeldUpWithin e from to ended bytes out
RangeComesTo e from to ended AtEnd (Err (Passage why)) bytes out = IsRefusedBefore e to why ended bytes out
RangeComesTo {X} e from to ended AtEnd (Err Write) bytes out = ComesTo {X = X} e ended (Err Write) bytes out
RangeComesTo e from to ended AtEnd (Err Memory) bytes out = IsHeldUpWithin e from to ended bytes out

-- no read was made, or the last one, like the earlier ones, was for a passage that begins before byte `end`: the
-- passages that the bytes of all reads except the last settle end before it
abbrev pub ReadsBefore : {e : Writing} {from to : Reads} {bytes out : List ℕ} → ℕ → KeepsUp e from to bytes out → Type 0
ReadsBefore {e} {from} {to} {bytes} {out} end keeps_up = IsStill [] bytes from to ⊎ (next_start keeps_up.settled < end)

pub record IsRangeRun {X : Type 0} (e : Writing) (from to : ℕ) (reads reads' : Reads) (ended : Bool) (AtEnd : Type 0)
    (answer : Result X CmdFault) (bytes out : List ℕ) : Type 0 where
  pub comes : RangeComesTo e from to ended AtEnd answer bytes out
  pub keeps_up : KeepsUp e reads reads' bytes out
  pub no_further : ReadsBefore to keeps_up

-- what `mark`, `show` and `segment` do with the passages of a range: to the devices, with the result
pub record RangeRuns (part : Part) (engine : Engine) (before after : Devices)
    (answer : Result (Unit {0}) CmdFault) : Type 0 where
  pub shown : OnOk answer (IfSome before.unread (λ input. IsUtf8 input
      → Appends before.written after.written
      (text_within engine.lines part.from part.to (passages_by (by_passage engine) (chars input)))))
  pub run : Ran (is_failed_read answer) before.unread after.unread before.written after.written
      (IsRangeRun (by_passage (within part engine)) part.from part.to before.reads after.reads after.has_ended
      (IsTrue after.has_ended × IsAtEnd after.unread) answer)
  pub reads : after.reads.count ≤ before.reads.count + (longest_text + 1)
  pub limit : IsErrOf answer (CmdFault.Passage PassageFault.Limit) ↔ (¬ (IsLimit engine.limit))
  pub failed_reads : after.failed_reads ≡ failed_reads_with before.failed_reads answer
  pub failed_writes : after.failed_writes ≡ failed_writes_with before.failed_writes answer
