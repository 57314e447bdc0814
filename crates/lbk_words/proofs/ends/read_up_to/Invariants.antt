use Rattle.std.proofs.Common.{ℕ, ◌≡◌, ◌+◌, ◌-◌, ◌<◌, ◌≤◌, Bool, List, length}
use Rattle.lbk_words.specs.declared.word.Filled.{Filled}
use Rattle.lbk_words.specs.Ends.{IsReading}
use Rattle.lbk_words.specs.Near.{AreMet}
use Rattle.lbk_words.proofs.ends.read_up_to.Given as goal

abbrev pub invariant-alike : goal.invariant-alike
invariant-alike g l = record {
  few : l.here.row < 43;
  onward : (l.fn.from.at ≤ l.here.at) × (l.fn.from.count ≤ l.here.count);
  starts : l.fn.from.start + l.here.count ≤ l.here.start + l.fn.from.count;
  within : (l.here.start < l.here.at) × (l.here.at ≤ length l.text) × (l.here.count ≤ length l.out);
  room : l.here.count + l.stop ≤ length l.out + l.here.at;
  inside : (at : ℕ) → at < l.stop → at + g.row.SIZE ≤ length l.text;
  len : length l.out ≡ length l.fn.out;
  reads : (letter : ℕ → Bool) → AreMet letter l.near → (start : Filled) (old : List g.row.S.Denot)
      → IsReading g.S.PartSlot.made letter l.text start old l.fn.from l.fn.out
      → IsReading g.S.PartSlot.made letter l.text start old l.here l.out;
}

abbrev pub decreases-alike : goal.decreases-alike
decreases-alike g l = length l.text - l.here.at
