use Rattle.std.proofs.Common.{◌≡◌, ◌++◌, ◌+◌, ◌-◌, ◌<◌, ◌≤◌, ℕ, List, drop, map, slice_index_or, take}
use Rattle.lbk_bytes.specs.Order.{no_break}
use Rattle.lbk_bytes.specs.Shown.{raw_of}
use Rattle.lbk_rules.specs.declared.Break.{Break}
use Rattle.lbk_chunks.specs.declared.cut.Cut.{Cut}
use Rattle.lbk_chunks.specs.Coming.{AreAmong, StandWithin, no_cut}
use Rattle.lbk_chunks.proofs.cursor.add_cuts.Given as goal

abbrev pub invariant-loop-k : goal.invariant-loop-k
invariant-loop-k l = record {
  few : l.k ≤ l.fn.count;
  among : (cuts : List Cut) (found rest : List Break) → map raw_of found ≡ take l.fn.count l.breaks → AreAmong l.text cuts (found ++ rest) l.fn.start l.fn.words l.fn.out
      → AreAmong l.text cuts (drop l.k found ++ rest) l.here l.words l.out;
  same : l.here.place.breaks ≡ l.fn.start.place.breaks;
  counts : (l.fn.start.count ≤ l.here.count) × (l.here.count ≤ l.fn.start.count + l.k);
  within : (size : ℕ) → ((k : ℕ) → k < l.fn.count → (slice_index_or l.breaks k no_break).at ≤ size) → StandWithin size l.fn.start.count l.fn.out
      → StandWithin size l.here.count l.out;
  counted : 0 < l.k → l.k ≡ l.fn.count → l.here.count ≡ l.fn.start.count + l.k → l.here.place.words ≡ (slice_index_or l.out (l.here.count - 1) no_cut).words;
}

abbrev pub decreases-loop-k : goal.decreases-loop-k
decreases-loop-k l = l.fn.count - l.k
