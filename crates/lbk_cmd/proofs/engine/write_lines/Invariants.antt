use Rattle.std.proofs.Common.{◌≡◌, ◌+◌, ◌-◌}
use Rattle.lbk_feed.specs.Text.{longest_text}
use Rattle.lbk_passage.specs.Shown.{state_of}
use Rattle.lbk_cmd.specs.Engines.{engine_by}
use Rattle.lbk_cmd.specs.Run.{by_passage}
use Rattle.lbk_cmd.proofs.Looping.{Going}
use Rattle.lbk_cmd.proofs.engine.write_lines.Given as goal

abbrev pub invariant-loop-gathered : goal.invariant-loop-gathered
invariant-loop-gathered g l = record {
  going : Going (by_passage (engine_by g.C.CellSource.cell_of l.fn.lines l.how))
      (g.R.Source.unread l.fn.reader) (g.W.Sink.written l.fn.writer) (g.R.Source.reads_made l.fn.reader)
      (state_of g.C.CellSource.cell_of l.segmenter)
      (g.R.Source.unread l.reader) (g.W.Sink.written l.writer) (g.R.Source.has_ended l.reader) (g.R.Source.reads_made l.reader)
      l.gathered.lines.items;
  read_failures : g.R.Source.failure_count l.reader ≡ g.R.Source.failure_count l.fn.reader;
  write_failures : g.W.Sink.failure_count l.writer ≡ g.W.Sink.failure_count l.fn.writer;
}

abbrev pub decreases-loop-gathered : goal.decreases-loop-gathered
decreases-loop-gathered g l = longest_text + 1 - (state_of g.C.CellSource.cell_of l.segmenter).start
