use Rattle.std.proofs.Common.{◌≡◌, ◌-◌, ◌≤◌, ℕ, List, Some, length}
use Rattle.lbk_rules.specs.declared.Cell.{Cell}
use Rattle.lbk_rules.specs.declared.neighbours.Neighbours.{Neighbours}
use Rattle.lbk_chunks.specs.declared.cut.Cut.{Cut}
use Rattle.lbk_chunks.specs.Coming.{ArePlaced, IsEnding, IsKept, Knows, StandsIn, early_in, last_in}
use Rattle.lbk_chunks.proofs.chunking.fit_on.Given as goal

abbrev pub invariant-loop-k : goal.invariant-loop-k
invariant-loop-k l = record {
  few : (l.from ≤ l.k) × (l.k ≤ l.block.count);
  early : l.early ≤ l.k;
  last : l.last ≡ (last_in l.block.cuts l.from l.fn.start.last l.k).at;
  ending : (cell : ℕ → Cell) (kinds : List ℕ) (pairs : Neighbours) (text : List ℕ) (cuts : List Cut) → Knows cell kinds pairs text cuts l.window l.here
      → IsEnding l.limits cuts l.here l.fn.start.last l.fn.start.early
      → IsEnding l.limits cuts l.here (last_in l.block.cuts l.from l.fn.start.last l.k) (early_in l.block.cuts l.fn.start.early l.early);
  placed : (text : List ℕ) → IsKept text l.window → ArePlaced l.here.told (length text) l.fn.start
      → StandsIn l.here.told (length text) (last_in l.block.cuts l.from l.fn.start.last l.k)
      × ((c : Cut) → early_in l.block.cuts l.fn.start.early l.early ≡ Some c → StandsIn l.here.told (length text) c);
  onward : l.fn.start.last.at ≤ l.last;
}

abbrev pub decreases-loop-k : goal.decreases-loop-k
decreases-loop-k l = l.block.count - l.k
