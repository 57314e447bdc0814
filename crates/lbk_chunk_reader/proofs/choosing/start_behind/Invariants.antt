use Rattle.std.proofs.Common.{◌≡◌, length, map}
use Rattle.std.specs.Prelude.{find}
use Rattle.lbk_chunks.specs.Chunks.{may_start}
use Rattle.lbk_chunk_reader.specs.Numbered.{numbered}
use Rattle.lbk_chunk_reader.proofs.choosing.start_behind.Given as goal

abbrev pub invariant-loop-cut : goal.invariant-loop-cut
invariant-loop-cut l = find (may_start l.limits l.here (numbered l.end) (numbered l.next)) (map numbered l.left)
    ≡ find (may_start l.limits l.here (numbered l.end) (numbered l.next)) (map numbered l.fn.told)

abbrev pub decreases-loop-cut : goal.decreases-loop-cut
decreases-loop-cut l = length l.left
