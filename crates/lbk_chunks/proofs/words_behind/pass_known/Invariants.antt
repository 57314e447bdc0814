use Rattle.std.proofs.Common.{◌-◌, ℕ, List}
use Rattle.lbk_chunks.specs.Coming.{AreRead, IsPassed}
use Rattle.lbk_chunks.proofs.words_behind.pass_known.Given as goal

abbrev pub invariant-loop-here : goal.invariant-loop-here
invariant-loop-here l = record {
  read : (text : List ℕ) → AreRead text l.fn.words → AreRead text l.words;
  passed : (text : List ℕ) → AreRead text l.fn.words → IsPassed text l.at l.fn.place l.here;
}

abbrev pub decreases-loop-here : goal.decreases-loop-here
decreases-loop-here l = l.words.count - l.words.next
