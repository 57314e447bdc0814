use Rattle.std.proofs.Common.{◌≡◌, ◌≤◌, length, map}
use Rattle.lbk_chunks.specs.Chunks.{cuts_past}
use Rattle.lbk_chunk_reader.specs.Numbered.{numbered}
use Rattle.lbk_chunk_reader.proofs.choosing.past.Given as goal

abbrev pub invariant-loop-first : goal.invariant-loop-first
invariant-loop-first l = record {
  past : cuts_past l.at (map numbered l.left) ≡ cuts_past l.at (map numbered l.cuts);
  fewer : length l.left ≤ length l.cuts;
}

abbrev pub decreases-loop-first : goal.decreases-loop-first
decreases-loop-first l = length l.left
