use Rattle.std.proofs.Common.{◌≡◌, []}
use Rattle.lbk_chunks.specs.Coming.{AreRead, IsPassed, left, words_ahead}
use Rattle.lbk_chunks.proofs.words_behind.pass_words.Given as goal

abbrev pub invariant-loop-here : goal.invariant-loop-here
invariant-loop-here l = record {
  same : l.here.breaks ≡ l.fn.place.breaks;
  read : AreRead l.text l.fn.words → AreRead l.text l.words;
  passed : AreRead l.text l.fn.words → IsPassed l.text l.at l.fn.place l.here;
  none : AreRead l.text l.fn.words → l.here.word.end ≡ 0 → words_ahead l.text l.here ≡ [];
}

abbrev pub decreases-loop-here : goal.decreases-loop-here
decreases-loop-here l = left l.at l.here
