use Rattle.std.proofs.Common.{ℕ, ◌-◌, ◌≤◌, List, length, take}
use Rattle.lbk_rules.specs.declared.Cell.{Cell}
use Rattle.lbk_chunks.specs.declared.chunk.Chunk.{Chunk}
use Rattle.lbk_chunks.specs.declared.cut.Cut.{Cut}
use Rattle.lbk_chunks.specs.Chunks.{AreChunks, AreTold}
use Rattle.lbk_chunks.specs.Coming.{AreGiven, IsKept, Knows}
use Rattle.lbk_chunks.proofs.chunking.give_chunks.Given as goal

abbrev pub invariant-loop-count : goal.invariant-loop-count
invariant-loop-count g l = record {
  kept : IsKept l.text l.fn.window → IsKept l.text l.window;
  room : l.count ≤ length l.out;
  told : IsKept l.text l.fn.window → AreTold l.fn.here.told l.here.told (length l.text) (take l.count l.out);
  order : l.here.start ≤ l.here.told;
  given : (cell : ℕ → Cell) (cuts : List Cut) (to_come : List Chunk) → Knows cell (g.K.KindSource.kinds_of l.table) (g.K.KindSource.pairs_of l.table) l.text cuts l.fn.window l.fn.here
      → AreChunks l.limits cuts l.fn.here to_come → AreGiven cell (g.K.KindSource.kinds_of l.table) (g.K.KindSource.pairs_of l.table) l.text l.limits cuts to_come l.count l.out l.window l.here;
}

abbrev pub decreases-loop-count : goal.decreases-loop-count
decreases-loop-count g l = length l.out - l.count
