use Rattle.std.proofs.Common.{◌≡◌, ◌+◌, ◌-◌, ◌≤◌}
use Rattle.lbk_notation.specs.Stream.{longest_stream}
use Rattle.lbk_notation.proofs.RunLemmas.{ReadsSoFar}
use Rattle.lbk_notation.proofs.files.read_all.Given as goal

-- what was read so far is used, a byte a read at least, and no device has failed
abbrev pub invariant-loop-count : goal.invariant-loop-count
invariant-loop-count g l = record {
  reads : ReadsSoFar (g.C.CellSource.cell_of l.replayer.cells.now) l.replayer.form l.replayer.profile l.progress
      (g.R.Source.unread l.initial.reader) (g.R.Source.unread l.reader) (g.W.Sink.written l.initial.writer) (g.W.Sink.written l.writer);
  few : (g.R.Source.reads_made l.reader).count ≤ (g.R.Source.reads_made l.initial.reader).count + l.progress.taken;
  none_failed_to_read : g.R.Source.failure_count l.reader ≡ g.R.Source.failure_count l.initial.reader;
  none_failed_to_write : g.W.Sink.failure_count l.writer ≡ g.W.Sink.failure_count l.initial.writer;
}

abbrev pub decreases-loop-count : goal.decreases-loop-count
decreases-loop-count g l = longest_stream - l.progress.taken
