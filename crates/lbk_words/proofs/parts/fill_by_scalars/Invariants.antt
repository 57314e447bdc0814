use Rattle.std.proofs.Common.{◌-◌, ◌≤◌, length}
use Rattle.lbk_words.specs.Filling.{FillsUpTo}
use Rattle.lbk_words.proofs.parts.fill_by_scalars.Given as goal

abbrev pub invariant-scalars : goal.invariant-scalars
invariant-scalars g l = FillsUpTo l.text l.fn.here l.fn.out l.part l.out

abbrev pub decreases-scalars : goal.decreases-scalars
decreases-scalars g l = length l.text - l.part.at

abbrev pub invariant-quick : goal.invariant-quick
invariant-quick g l = record {
  onward : l.from ≤ l.part.at;
  fills : FillsUpTo l.text l.fn.here l.fn.out l.part l.out;
}

abbrev pub decreases-quick : goal.decreases-quick
decreases-quick g l = length l.text - l.part.at
