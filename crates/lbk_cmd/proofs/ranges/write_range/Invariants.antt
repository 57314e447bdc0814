use Rattle.std.proofs.Common.{◌≡◌, ◌+◌, ◌-◌}
use Rattle.lbk_feed.specs.Text.{longest_text}
use Rattle.lbk_passage.specs.Shown.{state_of}
use Rattle.lbk_cmd.specs.Engines.{engine_by}
use Rattle.lbk_cmd.specs.Ranges.{ReadsBefore, within}
use Rattle.lbk_cmd.specs.Run.{by_passage}
use Rattle.lbk_cmd.proofs.Looping.{Going}
use Rattle.lbk_cmd.proofs.ranges.write_range.Given as goal

abbrev pub invariant-loop-part : goal.invariant-loop-part
invariant-loop-part g l = record {
  going : Going (by_passage (within l.fn.part (engine_by g.C.CellSource.cell_of l.fn.lines l.how)))
      (g.R.Source.unread l.fn.reader) (g.W.Sink.written l.fn.writer) (g.R.Source.reads_made l.fn.reader)
      (state_of g.C.CellSource.cell_of l.segmenter)
      (g.R.Source.unread l.reader) (g.W.Sink.written l.writer) (g.R.Source.has_ended l.reader) (g.R.Source.reads_made l.reader)
      l.gathered.lines.items;
  before : ReadsBefore l.fn.part.to going.keeps_up;
  read_failures : g.R.Source.failure_count l.reader ≡ g.R.Source.failure_count l.fn.reader;
  write_failures : g.W.Sink.failure_count l.writer ≡ g.W.Sink.failure_count l.fn.writer;
  at : l.gathered.at ≡ (state_of g.C.CellSource.cell_of l.segmenter).start;
}

abbrev pub decreases-loop-part : goal.decreases-loop-part
decreases-loop-part g l = longest_text + 1 - (state_of g.C.CellSource.cell_of l.segmenter).start
