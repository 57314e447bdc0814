use Rattle.std.proofs.Common.{◌≡◌, ◌≤◌, ◌+◌, ◌-◌, length}
use Rattle.std.specs.Io.KnownBytes.{Consumes}
use Rattle.lbk_files.proofs.front.read_front.Given as goal

-- the front is what was read, a byte a read at least, and no read has failed
abbrev pub invariant-loop-block : goal.invariant-loop-block
invariant-loop-block g l = record {
  read : Consumes (g.R.Source.unread l.initial.reader) (g.R.Source.unread l.reader) l.front.items;
  within : length l.front.items ≤ l.most + 1;
  few : (g.R.Source.reads_made l.reader).count ≤ (g.R.Source.reads_made l.initial.reader).count + length l.front.items;
  none_failed : g.R.Source.failure_count l.reader ≡ g.R.Source.failure_count l.initial.reader;
}

abbrev pub decreases-loop-block : goal.decreases-loop-block
decreases-loop-block g l = l.most + 1 - length l.front.items
