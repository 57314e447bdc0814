use Rattle.std.proofs.Common.{ℕ, List, Bool, Option, None, Some, rules}
use Rattle.std.specs.Borrow.{Bor}
use Rattle.lbk_args.specs.declared.order.Engine.TheVariants.{Mark, Show, Segment, Chunk, Replay}
use Rattle.lbk_args.specs.declared.order.Part.{Part}
use Rattle.lbk_args.specs.declared.order.Sizes.{Sizes}
use Rattle.lbk_rules.specs.declared.Cell.{Cell}
use Rattle.lbk_values.specs.declared.profile.Profile.{Profile}
use Rattle.lbk_cmd.specs.Acts.{ChunksEnd, EngineRuns, LinesEnd, RunsOver}
use Rattle.lbk_cmd.specs.Chunk.{limits_of}
use Rattle.lbk_cmd.specs.Devices.{Devices}
use Rattle.lbk_cmd.specs.declared.ending.Ending.{Ending}
use Rattle.lbk_cmd.specs.declared.engine.Lines.TheVariants.{Text, Segmented}
use Rattle.lbk_cmd.specs.declared.engine.TextLines.TheVariants.{Signed, Shown}
use Rattle.lbk_cmd.proofs.performing.perform_by.Goals as goal

module _ (cell : ℕ → Cell) (mark : List ℕ) (file : Option (List ℕ)) (profile : Profile) (before after : Devices) (ending : Ending) where
  over_mark : (part : Option Part) (limit : ℕ) (sign : Bor (List ℕ))
      → LinesEnd part (Text (Signed sign)) cell limit profile before after ending
      → RunsOver part (Mark limit) sign.now file profile cell before after ending
  over_mark None limit sign ends = ends
  over_mark (Some part) limit sign ends = ends

  over_show : (part : Option Part) (limit : ℕ) → LinesEnd part (Text Shown) cell limit profile before after ending
      → RunsOver part (Show limit) mark file profile cell before after ending
  over_show None limit ends = ends
  over_show (Some part) limit ends = ends

  over_segment : (part : Option Part) (limit : ℕ) → LinesEnd part Segmented cell limit profile before after ending
      → RunsOver part (Segment limit) mark file profile cell before after ending
  over_segment None limit ends = ends
  over_segment (Some part) limit ends = ends

  over_chunk : (part : Option Part) (limit : ℕ) (sizes : Sizes) (texts : Bool)
      → ChunksEnd (record { range = part; texts = texts; file = file }) (limits_of sizes) cell limit profile before after ending
      → RunsOver part (Chunk limit sizes texts) mark file profile cell before after ending
  over_chunk None limit sizes texts ends = ends
  over_chunk (Some part) limit sizes texts ends = ends

  over_replay : (part : Option Part) (kinds : Bool) → EngineRuns (Replay kinds) mark file profile cell before after ending
      → RunsOver part (Replay kinds) mark file profile cell before after ending
  over_replay None kinds runs = runs
  over_replay (Some part) kinds runs = runs

pub returns-in-Mark : goal.returns-in-Mark
returns-in-Mark g c = rw c.in-Mark.is (over_mark _ c.args.ready.now.sign.now _ _ _ _ _ c.args.ready.now.part _ _ c.perform_lines.ensures)

pub returns-in-Show : goal.returns-in-Show
returns-in-Show g c = rw c.in-Show.is (over_show _ _ _ _ _ _ _ c.args.ready.now.part _ c.perform_lines-in-Show.ensures)

pub returns-in-Segment : goal.returns-in-Segment
returns-in-Segment g c = rw c.in-Segment.is (over_segment _ _ _ _ _ _ _ c.args.ready.now.part _ c.perform_lines-in-Segment.ensures)

pub returns-in-Chunk : goal.returns-in-Chunk
returns-in-Chunk g c = rw (c.in-Chunk.is, ← c.file_of.ensures) (over_chunk _ _ _ _ _ _ _ c.args.ready.now.part _ _ _ c.perform_chunk.ensures)

pub returns-in-Replay : goal.returns-in-Replay
returns-in-Replay g c = rw c.in-Replay.is (over_replay _ _ _ _ _ _ _ c.args.ready.now.part _ (rw (← c.form.ensures) (
  c.replay.result,
  record {
    replayed = c.replay.ensures.replayed;
    run = c.replay.ensures.run;
    ended = c.replay.ensures.devices.ended;
    failed_reads = c.replay.ensures.devices.of_reader.failed_reads;
    failed_writes = c.replay.ensures.devices.of_writer.failed_writes;
    reads = c.replay.ensures.devices.reads;
  },
  c.of_replay.ensures,
)))

pub fact_in-lines : goal.fact_in-lines
fact_in-lines g c = search rules
