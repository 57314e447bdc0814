use Rattle.std.proofs.Common.{ℕ, ◌-◌, ◌^◌, ◌<◌, List, length}
use Rattle.lbk_rules.specs.declared.Cell.{Cell}
use Rattle.lbk_chunks.specs.declared.cut.Cut.{Cut}
use Rattle.lbk_chunks.specs.Coming.{ArePlaced, IsEnding, IsKept, KeepsCuts, Knows}
use Rattle.lbk_chunks.proofs.chunking.chunk_end.Given as goal

abbrev pub invariant-loop-next : goal.invariant-loop-next
invariant-loop-next g l = record {
  keeps : KeepsCuts (g.K.KindSource.kinds_of l.table) (g.K.KindSource.pairs_of l.table) l.text l.fn.window l.window;
  ending : (cell : ℕ → Cell) (cuts : List Cut) → Knows cell (g.K.KindSource.kinds_of l.table) (g.K.KindSource.pairs_of l.table) l.text cuts l.fn.window l.here → IsEnding l.limits cuts l.here l.so_far.last l.so_far.early;
  past : l.here.told < l.so_far.last.at;
  placed : IsKept l.text l.fn.window → ArePlaced l.here.told (length l.text) l.so_far;
}

abbrev pub decreases-loop-next : goal.decreases-loop-next
decreases-loop-next g l = 2 ^ 64 - l.so_far.last.at
