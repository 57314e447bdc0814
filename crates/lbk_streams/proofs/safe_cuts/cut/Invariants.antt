use Rattle.std.proofs.Common.{◌-◌, ◌<◌, ◌≤◌, ℕ, length}
use Rattle.lbk_rules.specs.declared.Cell.{Cell}
use Rattle.lbk_rules.specs.FlatTable.{AreFlatKinds}
use Rattle.lbk_streams.specs.Cuts.{IsPieceStart, IsSafeCut}
use Rattle.lbk_streams.specs.Looking.{LastIs}
use Rattle.lbk_streams.proofs.safe_cuts.cut.Given as goal

-- the pieces up to here were looked at, and at none of their starts a part may begin
abbrev pub invariant-loop-place : goal.invariant-loop-place
invariant-loop-place g l = record {
  within : l.place ≤ length l.text;
  behind : l.fn.at ≤ l.place;
  begins : IsPieceStart l.text l.place;
  last : (cell : ℕ → Cell) → AreFlatKinds (g.K.KindSource.kinds_of l.table) cell → LastIs cell l.text l.place l.last;
  none : (cell : ℕ → Cell) (place : ℕ) → AreFlatKinds (g.K.KindSource.kinds_of l.table) cell → l.fn.at ≤ place → place < l.place → ¬ (IsSafeCut cell l.text place);
}

abbrev pub decreases-loop-place : goal.decreases-loop-place
decreases-loop-place g l = length l.text - l.place
