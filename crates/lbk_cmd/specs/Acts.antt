-- What a run of the program does, by its arguments.
use Rattle.std.specs.Prelude.{◌≡◌, ◌≢◌, ◌⊎◌, ◌+◌, ◌≤◌, ◌↔◌, ℕ, Bool, List, [], Option, None, Some, Result, IfOk, IfSome}
use Rattle.std.specs.Prelude.{IsErrOf, IsTrue, IsUtf8, OnOk, if◌then◌else◌}
use Rattle.std.specs.Str.{chars}
use Rattle.std.specs.Io.KnownBytes.{Appends, IsAtEnd}
use Rattle.lbk_feed.specs.Runs.{Ran}
use Rattle.lbk_feed.specs.declared.traits.Source.{Ghosts as SourceMembers}
use Rattle.lbk_feed.specs.Text.{longest_text}
use Rattle.lbk_passage.specs.Passages.{passages}
use Rattle.lbk_passage.specs.State.{IsLimit}
use Rattle.lbk_passage.specs.declared.faults.PassageFault.{PassageFault}
use Rattle.lbk_notation.specs.Replay.{IsReplayRun, IsReplayed, fault_in, is_read_fault}
use Rattle.lbk_notation.specs.Replay as replay
use Rattle.lbk_cmd.specs.Engines.{engine_of, lines_of, marking, segmenting, showing}
use Rattle.lbk_cmd.specs.Run.{Engine as TextEngine, IsRun, Writing, by_passage, failed_reads_with, failed_writes_with}
use Rattle.lbk_cmd.specs.Run.{is_failed_read}
use Rattle.lbk_cmd.specs.Ranges.{RangeRuns}
use Rattle.lbk_cmd.specs.Chunk.{AreLinesOf, Wanted, chunking, limits_of}
use Rattle.lbk_chunks.specs.declared.chunk.Limits.{Limits}
use Rattle.lbk_cmd.specs.Titles.{RunsNamed, file_of, has_title}
use Rattle.lbk_cmd.specs.Texts.{lines_from, segment_text, show_text, signed_text}
use Rattle.lbk_rules.specs.declared.Cell.{Cell}
use Rattle.lbk_values.specs.declared.profile.Profile.{Profile}
use Rattle.lbk_values.specs.declared.profile.Profile.TheVariants.{First}
use Rattle.lbk_notation.specs.declared.findings.Report.{Report}
use Rattle.lbk_notation.specs.declared.findings.ReplayFault.{ReplayFault}
use Rattle.lbk_notation.specs.declared.marks.Form.{Form}
use Rattle.lbk_notation.specs.declared.marks.Form.TheVariants.{Plain, Kinds}
use Rattle.lbk_args.specs.declared.order.Engine.{Engine}
use Rattle.lbk_args.specs.declared.order.Engine.TheVariants.{Mark, Show, Segment, Chunk, Replay}
use Rattle.lbk_args.specs.declared.order.Part.{Part}
use Rattle.lbk_args.specs.Accepted.{AreAccepted}
use Rattle.lbk_args.specs.Command.{default_limit}
use Rattle.lbk_args.specs.PlainWords.{IsPlainFor}
use Rattle.lbk_args.specs.Task.{Task, task_by}
use Rattle.lbk_files.specs.declared.faults.CellsFault.{CellsFault}
use Rattle.lbk_files.specs.declared.faults.NotReady.{NotReady}
use Rattle.lbk_files.specs.SampleFiles.{AreSampleCells, IsSampleFault}
use Rattle.lbk_files.specs.PropertyValues.{AreCellsBy}
use Rattle.lbk_files.specs.Ready.{IsStoppedAt, IsStoppedByWords}
use Rattle.lbk_files.specs.Store.{LoadCounts}
use Rattle.lbk_files.specs.TaskCells.{cell_of_task}
use Rattle.lbk_files.specs.Taking.{TakesFiles}
use Rattle.lbk_files.specs.declared.store.Store.{Ghosts as StoreMembers}
use Rattle.lbk_files.specs.declared.readiness.Ready.{Ready}
use Rattle.lbk_cmd.specs.declared.faults.CmdFault.{CmdFault}
use Rattle.lbk_cmd.specs.declared.ending.Ending.{Ending}
use Rattle.lbk_cmd.specs.declared.ending.Ending.TheVariants.{Refused}
use Rattle.lbk_cmd.specs.declared.ending.RunFault.TheVariants.{Memory}
use Rattle.lbk_cmd.specs.declared.engine.Lines.{Lines}
use Rattle.lbk_cmd.specs.Devices.{Devices}
use Rattle.lbk_cmd.specs.Operands.{Reads, ReadsAlone, Standing}
use Rattle.lbk_cmd.specs.Ending.{ending_of_files, ending_of_replay, ending_of_stop, ending_of_text}

-- what the engines over texts do, which differ only in what they write: to the devices, with the result
pub record TextRuns (Written : List ℕ → Option (List ℕ) → Option (List ℕ) → Type 0) (engine : Writing)
    (before after : Devices) (answer : Result (Unit {0}) CmdFault) : Type 0 where
  pub shown : OnOk answer (IfSome before.unread (λ input. IsUtf8 input × Written input before.written after.written))
  pub ended : OnOk answer (IsTrue after.has_ended × IsAtEnd after.unread)
  pub run : Ran (is_failed_read answer) before.unread after.unread before.written after.written
      (IsRun engine before.reads after.reads after.has_ended answer)
  pub reads : after.reads.count ≤ before.reads.count + (longest_text + 1)
  pub limit : IsErrOf answer (CmdFault.Passage PassageFault.Limit) ↔ (¬ (IsLimit engine.limit))
  pub failed_reads : after.failed_reads ≡ failed_reads_with before.failed_reads answer
  pub failed_writes : after.failed_writes ≡ failed_writes_with before.failed_writes answer

-- the same, by the lines written for each passage
abbrev pub Writes : Lines → (ℕ → Cell) → ℕ → Profile → Devices → Devices → Result (Unit {0}) CmdFault → Type 0
Writes lines cell limit profile =
    TextRuns (λ input before after. Appends before after
    (lines_from (lines_of lines cell) 0 (passages profile cell (chars input))))
    (by_passage (engine_of lines cell profile limit))

abbrev pub Marks : List ℕ → (ℕ → Cell) → ℕ → Profile → Devices → Devices → Result (Unit {0}) CmdFault → Type 0
Marks mark cell limit profile =
    TextRuns (λ input before after. Appends before after (signed_text mark cell (passages profile cell (chars input))))
    (by_passage (marking mark cell profile limit))

abbrev pub Shows : (ℕ → Cell) → ℕ → Profile → Devices → Devices → Result (Unit {0}) CmdFault → Type 0
Shows cell limit profile =
    TextRuns (λ input before after. Appends before after (show_text (passages profile cell (chars input))))
    (by_passage (showing cell profile limit))

abbrev pub Segments : (ℕ → Cell) → ℕ → Profile → Devices → Devices → Result (Unit {0}) CmdFault → Type 0
Segments cell limit profile =
    TextRuns (λ input before after. Appends before after (segment_text cell (passages profile cell (chars input))))
    (by_passage (segmenting cell profile limit))

-- `chunk`, as the task asks for it
abbrev pub Chunks : Wanted → Limits → (ℕ → Cell) → ℕ → Profile → Devices → Devices → Result (Unit {0}) CmdFault → Type 0
Chunks wanted limits cell limit profile =
    TextRuns (λ input before after. (out : List ℕ)
    × AreLinesOf wanted limits cell (passages profile cell (chars input)) out × Appends before after out)
    (chunking wanted limits cell profile limit)

-- what `replay` does
pub record Replays (cell : ℕ → Cell) (form : Form) (profile : Profile) (before after : Devices)
    (answer : Result Report ReplayFault) : Type 0 where
  pub replayed : IfOk answer (λ report. IfSome before.unread (λ input.
      IsReplayed cell form profile input report before.written after.written))
  pub run : Ran (is_read_fault answer) before.unread after.unread before.written after.written
      (IsReplayRun cell form profile before.reads after.reads (IsTrue after.has_ended × IsAtEnd after.unread) answer)
  pub ended : OnOk answer (IsTrue after.has_ended × IsAtEnd after.unread)
  pub failed_reads : after.failed_reads ≡ replay.failed_reads_with before.failed_reads (fault_in answer)
  pub failed_writes : after.failed_writes ≡ replay.failed_writes_with before.failed_writes (fault_in answer)
  pub reads : after.reads.count ≤ before.reads.count + (longest_text + 1)

-- `--kinds`
abbrev pub form_of : Bool → Form
form_of kinds = if kinds then Kinds else Plain

-- the run ends before an engine runs: nothing was read or written
abbrev pub StopsBefore : (NotReady → Type 0) → Devices → Devices → Ending → Type 0
StopsBefore IsStop before after ending = (stop : NotReady) × IsStop stop × (ending ≡ ending_of_stop stop)
    × (after ≡ before)

-- without arguments: `show` with the cells of the sample files, or out of memory for these, with nothing read or
-- written
abbrev pub ShowsSamples : Devices → Devices → Ending → Type 0
ShowsSamples before after ending =
    ((fault : CellsFault) × IsSampleFault fault × (ending ≡ ending_of_files fault) × (after ≡ before))
    ⊎ ((cell : ℕ → Cell) × AreSampleCells cell
    × ((answer : Result (Unit {0}) CmdFault) × Shows cell default_limit First before after answer
    × (ending ≡ ending_of_text answer)))

-- `chunk` runs, and the run ends as its result says
abbrev pub ChunksEnd : Wanted → Limits → (ℕ → Cell) → ℕ → Profile → Devices → Devices → Ending → Type 0
ChunksEnd wanted limits cell limit profile before after ending =
    (answer : Result (Unit {0}) CmdFault) × Chunks wanted limits cell limit profile before after answer
    × (ending ≡ ending_of_text answer)

-- the engine runs with its option, `mark` with this sign, `chunk` with this name of its file, and the run ends as its
-- result says
abbrev pub EngineRuns : Engine → List ℕ → Option (List ℕ) → Profile → (ℕ → Cell) → Devices → Devices → Ending → Type 0
EngineRuns (Mark limit) mark file profile cell before after ending =
    (answer : Result (Unit {0}) CmdFault) × Marks mark cell limit profile before after answer
    × (ending ≡ ending_of_text answer)
EngineRuns (Show limit) mark file profile cell before after ending =
    (answer : Result (Unit {0}) CmdFault) × Shows cell limit profile before after answer
    × (ending ≡ ending_of_text answer)
EngineRuns (Segment limit) mark file profile cell before after ending =
    (answer : Result (Unit {0}) CmdFault) × Segments cell limit profile before after answer
    × (ending ≡ ending_of_text answer)
EngineRuns (Chunk limit sizes texts) mark file profile cell before after ending =
    ChunksEnd (record { range = None; texts = texts; file = file }) (limits_of sizes) cell limit profile before after
    ending
EngineRuns (Replay kinds) mark file profile cell before after ending =
    (answer : Result Report ReplayFault) × Replays cell (form_of kinds) profile before after answer
    × (ending ≡ ending_of_replay answer)

-- an engine writes the passages of a range, and the run ends as its result says
abbrev pub RangeEnds : Part → TextEngine → Devices → Devices → Ending → Type 0
RangeEnds part engine before after ending =
    (answer : Result (Unit {0}) CmdFault) × RangeRuns part engine before after answer × (ending ≡ ending_of_text answer)

-- these lines are written for each passage, or for those that begin in a range, and the run ends as its result says
abbrev pub LinesEnd : Option Part → Lines → (ℕ → Cell) → ℕ → Profile → Devices → Devices → Ending → Type 0
LinesEnd None lines cell limit profile before after ending = (answer : Result (Unit {0}) CmdFault)
    × Writes lines cell limit profile before after answer × (ending ≡ ending_of_text answer)
LinesEnd (Some part) lines cell limit profile before after ending =
    RangeEnds part (engine_of lines cell profile limit) before after ending

-- the engine runs over a text, or over a range of it; `replay` has no ranges
abbrev pub RunsOver : Option Part → Engine → List ℕ → Option (List ℕ) → Profile → (ℕ → Cell) → Devices → Devices
    → Ending → Type 0
RunsOver None engine mark file profile cell = EngineRuns engine mark file profile cell
RunsOver (Some part) (Mark limit) mark file profile cell = RangeEnds part (marking mark cell profile limit)
RunsOver (Some part) (Show limit) mark file profile cell = RangeEnds part (showing cell profile limit)
RunsOver (Some part) (Segment limit) mark file profile cell = RangeEnds part (segmenting cell profile limit)
RunsOver (Some part) (Chunk limit sizes texts) mark file profile cell =
    ChunksEnd (record { range = Some part; texts = texts; file = file }) (limits_of sizes) cell limit profile
RunsOver (Some part) (Replay kinds) mark file profile cell = EngineRuns (Replay kinds) mark file profile cell

-- what a task runs over the text with a name, with cells
abbrev pub RunsTask : Task → (ℕ → Cell) → List ℕ → Devices → Devices → Ending → Type 0
RunsTask task cell name = RunsNamed (has_title task.names task.engine)
    (RunsOver task.part task.engine task.sign (file_of task.names name) task.profile cell) name

-- the same for an engine that is ready
abbrev pub RunsReady : Ready → List ℕ → Devices → Devices → Ending → Type 0
RunsReady ready name = RunsNamed (has_title ready.names ready.engine)
    (RunsOver ready.part ready.engine ready.sign.now (file_of ready.names name) ready.profile
    (cell_of_task ready.cells)) name

-- a task: its property values stop the run and no text is opened, or its engine runs with its options and profile and
-- their cells, over its texts, or over its range of each
abbrev pub Performs : {F : Type 0} → SourceMembers F → (List ℕ → Option (Option (List ℕ)))
    → (List ℕ → Option (Option (List ℕ))) → Task
    → LoadCounts → LoadCounts → Standing → Standing → Type 0
Performs source file text task counts counts' before after =
    (StopsBefore (IsStoppedAt file task counts counts') before.devices after.devices after.ending
    × (after.refused ≡ before.refused))
    ⊎ ((cell : ℕ → Cell) × AreCellsBy file task.values counts counts' cell
    × Reads source text (RunsTask task cell) task.texts before after)

-- a task, if no texts can be opened
abbrev pub PerformsAlone : (List ℕ → Option (Option (List ℕ))) → Task → LoadCounts → LoadCounts → Devices → Devices
    → Ending → Type 0
PerformsAlone file task counts counts' before after ending =
    StopsBefore (IsStoppedAt file task counts counts') before after ending
    ⊎ ((cell : ℕ → Cell) × AreCellsBy file task.values counts counts' cell
    × ReadsAlone (RunsTask task cell) task.texts before after ending)

-- arguments that ask for no task: none, or some that are not accepted
abbrev pub AskForNothing : List (List ℕ) → Type 0
AskForNothing words = (words ≡ []) ⊎ (¬ (AreAccepted words))

-- a run with these arguments; `Does` says what it does for a task
pub record RunsWords {S : Type 0} (store : StoreMembers S) (words : List (List ℕ)) (old new : S)
    (before after : Devices) (ending : Ending) (Does : Task → Type 0) : Type 0 where
  pub samples : words ≡ [] → ShowsSamples before after ending
  pub plain : (task : Task) → IsPlainFor task words → Does task
  pub accepted : (task : Task) → words ≢ [] → AreAccepted words → task_by words ≡ Some task → Does task
  pub others : words ≢ [] → ¬ (AreAccepted words) → StopsBefore (IsStoppedByWords words) before after ending
  pub unloaded : AskForNothing words → store.load_count new ≡ store.load_count old
  pub takes : TakesFiles store old new (ending ≡ Refused Memory)
