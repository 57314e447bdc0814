use Rattle.std.proofs.Common.{◌≡◌, ◌+◌, take}
use Rattle.lbk_notation.proofs.RunLemmas.{UsesSoFar}
use Rattle.lbk_notation.proofs.files.take_all.Given as goal

-- the bytes so far are used, and no write has failed
abbrev pub invariant-loop-byte : goal.invariant-loop-byte
invariant-loop-byte g l = record {
  uses : UsesSoFar (g.C.CellSource.cell_of l.replayer.cells.now) l.replayer.form l.replayer.profile l.initial.progress l.progress
      (take l.byte-index l.bytes) (g.W.Sink.written l.initial.writer) (g.W.Sink.written l.writer);
  taken : l.progress.taken ≡ l.initial.progress.taken + l.byte-index;
  none_failed : g.W.Sink.failure_count l.writer ≡ g.W.Sink.failure_count l.initial.writer;
}
