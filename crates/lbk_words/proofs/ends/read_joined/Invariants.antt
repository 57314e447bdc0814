use Rattle.std.proofs.Common.{ℕ, ◌≡◌, ◌-◌, ◌<◌, ◌≤◌, Bool, length}
use Rattle.lbk_words.specs.Ends.{IsNoted}
use Rattle.lbk_words.specs.Filling.{IsInRow}
use Rattle.lbk_words.specs.Near.{AreMet}
use Rattle.lbk_words.proofs.ends.read_joined.Given as goal

abbrev pub invariant-joined : goal.invariant-joined
invariant-joined l = record {
  place : (l.fn.from.at ≤ l.here.at) × (l.here.at ≤ length l.text) × (l.here.row < 43);
  same : (l.here.count ≡ l.fn.from.count) × (l.here.start ≡ l.fn.from.start);
  reads : (letter : ℕ → Bool) → AreMet letter l.near → IsInRow l.text l.fn.from.start l.fn.from.at l.fn.from.row
      → IsNoted letter l.text l.fn.from.start l.fn.from.at l.fn.from.has_letter
      → IsInRow l.text l.fn.from.start l.here.at l.here.row × IsNoted letter l.text l.fn.from.start l.here.at l.here.has_letter;
}

abbrev pub decreases-joined : goal.decreases-joined
decreases-joined l = length l.text - l.here.at
