use Rattle.std.proofs.Common.{◌⊎◌, ◌+◌, ◌-◌, ◌≤◌, ◌≡◌, length}
use Rattle.lbk_words.specs.Filling.{IsFilled}
use Rattle.lbk_words.proofs.filling.fill.Given as goal

abbrev pub invariant-loop-here : goal.invariant-loop-here
invariant-loop-here g l = record {
  within : (l.here.at ≤ length l.text) ⊎ (l.here.at ≡ l.fn.start);
  filled : IsFilled l.text l.fn.start l.here.at l.here.count l.out;
  past : length l.text ≤ l.fn.start → l.here.at ≡ l.fn.start;
  no_room : length l.out ≡ 0 → l.here.at ≡ l.fn.start;
}

abbrev pub decreases-loop-here : goal.decreases-loop-here
decreases-loop-here g l = (length l.text - l.here.at) + (length l.initial.out - l.here.count)
