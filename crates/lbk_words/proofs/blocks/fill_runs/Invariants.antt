use Rattle.std.proofs.Common.{◌≡◌, ◌⊎◌, ◌+◌, ◌-◌, ◌<◌, ◌≤◌, ℕ, List, drop, length}
use Rattle.lbk_words.specs.Blocks.{AreEdges}
use Rattle.lbk_words.specs.Filling.{IsFilled}
use Rattle.lbk_words.proofs.blocks.fill_runs.Given as goal

abbrev pub invariant-loop-here : goal.invariant-loop-here
invariant-loop-here l = record {
  base : l.base ≤ l.here.at;
  count : (l.fn.here.count ≤ l.here.count) × (l.here.count ≤ length l.out);
  within : (l.here.at ≡ l.fn.here.at) ⊎ (l.here.at < l.base + 64);
  edges : (bytes : List ℕ) → AreEdges bytes (l.fn.here.at - l.base) l.fn.found
      → (l.fn.here.at ≤ l.here.at) × AreEdges bytes (l.here.at - l.base) (record { edges = l.left; stop = l.fn.found.stop });
  filled : (text : List ℕ) (start : ℕ) → l.base + 64 ≤ length text → AreEdges (drop l.base text) (l.fn.here.at - l.base) l.fn.found
      → IsFilled text start l.fn.here.at l.fn.here.count l.fn.out → IsFilled text start l.here.at l.here.count l.out;
}

abbrev pub decreases-loop-here : goal.decreases-loop-here
decreases-loop-here l = length l.initial.out - l.here.count
