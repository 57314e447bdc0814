use Rattle.std.proofs.Common.{◌≡◌, ◌≤◌, ◌-◌, take, length}
use Rattle.std.specs.Io.KnownBytes.{Appends}
use Rattle.lbk_feed.specs.Writes.{HasWritten}
use Rattle.lbk_feed.proofs.writes.write_all.Given as goal

-- the bytes so far are written, each write was of some, and none has failed; of no bytes none was made
abbrev pub invariant-loop-done : goal.invariant-loop-done
invariant-loop-done g l = record {
  within : l.done ≤ length l.bytes;
  written : Appends (g.W.Sink.written l.initial.writer) (g.W.Sink.written l.writer) (take l.done l.bytes);
  by_writes : HasWritten g.W.Sink.written g.W.Sink.failure_count l.initial.writer l.writer;
  nothing : length l.bytes ≡ 0 → l.writer ≡ l.initial.writer;
  none_failed : g.W.Sink.failure_count l.writer ≡ g.W.Sink.failure_count l.initial.writer;
}

abbrev pub decreases-loop-done : goal.decreases-loop-done
decreases-loop-done g l = length l.bytes - l.done
