use Rattle.std.proofs.Common.{◌<◌, ◌≤◌, ℕ}
use Rattle.lbk_rules.specs.declared.Cell.{Cell}
use Rattle.lbk_rules.specs.FlatTable.{AreFlatKinds}
use Rattle.lbk_streams.specs.Cuts.{IsPieceStart, IsSafeCut}
use Rattle.lbk_streams.specs.Looking.{NextIs}
use Rattle.lbk_streams.proofs.safe_cuts.cut_before.Given as goal

-- behind this place, and up to the one from which it is looked for, no part may begin
abbrev pub invariant-loop-place : goal.invariant-loop-place
invariant-loop-place g l = record {
  within : l.place ≤ l.fn.at;
  begins : IsPieceStart l.text l.place;
  next : (cell : ℕ → Cell) → AreFlatKinds (g.K.KindSource.kinds_of l.table) cell → NextIs cell l.text l.place l.next;
  none : (cell : ℕ → Cell) (place : ℕ) → AreFlatKinds (g.K.KindSource.kinds_of l.table) cell → l.place < place → place ≤ l.fn.at → ¬ (IsSafeCut cell l.text place);
}

abbrev pub decreases-loop-place : goal.decreases-loop-place
decreases-loop-place g l = l.place
