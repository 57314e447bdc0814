use Rattle.std.proofs.Common.{◌≡◌, ◌+◌, ◌-◌}
use Rattle.lbk_feed.specs.Text.{longest_text}
use Rattle.lbk_passage.specs.Shown.{state_of}
use Rattle.lbk_cmd.specs.Chunk.{wanted_of}
use Rattle.lbk_cmd.specs.Waiting.{waiting_in}
use Rattle.lbk_cmd.proofs.ChunkRuns.{Cuts}
use Rattle.lbk_cmd.proofs.chunked.chunk.Given as goal

abbrev pub invariant-loop-window : goal.invariant-loop-window
invariant-loop-window g l = record {
  cuts : Cuts (wanted_of l.fn.asked) l.fn.limits (g.C.CellSource.cell_of l.cells) l.fn.profile l.fn.limit
      (g.R.Source.unread l.fn.reader) (g.W.Sink.written l.fn.writer) (g.R.Source.reads_made l.fn.reader)
      (state_of g.C.CellSource.cell_of l.segmenter)
      (g.R.Source.unread l.reader) (g.W.Sink.written l.writer) (g.R.Source.has_ended l.reader) (g.R.Source.reads_made l.reader)
      (waiting_in l.waiting) l.window;
  read_failures : g.R.Source.failure_count l.reader ≡ g.R.Source.failure_count l.fn.reader;
  write_failures : g.W.Sink.failure_count l.writer ≡ g.W.Sink.failure_count l.fn.writer;
}

abbrev pub decreases-loop-window : goal.decreases-loop-window
decreases-loop-window g l = longest_text + 1 - (state_of g.C.CellSource.cell_of l.segmenter).start
