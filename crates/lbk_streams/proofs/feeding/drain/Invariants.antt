use Rattle.std.proofs.Common.{◌≡◌, ◌+◌, ◌-◌, ◌<◌, ◌++◌, ℕ, [], true, List, drop, length}
use Rattle.lbk_rules.specs.declared.Cell.{Cell}
use Rattle.lbk_rules.specs.FlatTable.{IsFlatBy}
use Rattle.lbk_streams.specs.Taking.{FeedsOn, Takes}
use Rattle.lbk_streams.proofs.feeding.drain.Given as goal

abbrev pub invariant-loop-here : goal.invariant-loop-here
invariant-loop-here g l = record {
  takes : Takes g.U.StreamUnit.widest l.fn.start.taken l.fn.out l.fn.start l.out l.here;
  taken : l.here.taken ≡ l.fn.start.taken;
  full : l.fn.start.count ≡ length l.fn.out → (l.here ≡ l.fn.start) × (l.out ≡ l.fn.out);
  feeds : (cell : ℕ → Cell) (piece more : List g.row.U.Denot) → IsFlatBy (g.K.KindSource.kinds_of l.fn.table) (g.K.KindSource.pairs_of l.fn.table) cell
      → (l.fn.last ≡ true → l.fn.start.count < length l.fn.out → drop l.fn.start.taken piece ++ more ≡ [])
      → FeedsOn g.U.Unit.pieces_of l.fn.profile cell piece more l.fn.out l.fn.start l.out l.here;
}

abbrev pub decreases-loop-here : goal.decreases-loop-here
decreases-loop-here g l = l.here.cut.size + (length l.out - l.here.count)
