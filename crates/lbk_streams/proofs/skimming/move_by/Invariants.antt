use Rattle.std.proofs.Common.{◌-◌, ◌≡◌, ◌<◌, ◌≤◌, ℕ, get_or, drop, length}
use Rattle.lbk_bytes.specs.Order.{AreBreaks, no_break}
use Rattle.lbk_streams.proofs.PlaceLemmas.{moved_raw}
use Rattle.lbk_streams.proofs.skimming.move_by.Given as goal

abbrev pub invariant-loop-k : goal.invariant-loop-k
invariant-loop-k l = record {
  within : l.k ≤ l.count;
  room : l.count ≤ length l.out;
  same_length : length l.out ≡ length l.fn.out;
  breaks : AreBreaks l.fn.out l.count → AreBreaks l.out l.count;
  each : (j : ℕ) → j < l.k → get_or l.out j no_break ≡ moved_raw l.by (get_or l.fn.out j no_break);
  rest : drop l.k l.out ≡ drop l.k l.fn.out;
}

abbrev pub decreases-loop-k : goal.decreases-loop-k
decreases-loop-k l = l.count - l.k
