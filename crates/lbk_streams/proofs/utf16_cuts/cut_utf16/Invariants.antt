use Rattle.std.proofs.Common.{◌≡◌, ◌-◌, ◌<◌, ◌≤◌, ℕ, length}
use Rattle.lbk_rules.specs.declared.Cell.{Cell}
use Rattle.lbk_rules.specs.FlatTable.{AreFlatKinds}
use Rattle.lbk_units.specs.Units.{pieces_of_utf16}
use Rattle.lbk_streams.specs.Cuts.{IsSafeIn}
use Rattle.lbk_streams.proofs.utf16_cuts.cut_utf16.Given as goal

-- at none of the places before this one a part may begin
abbrev pub invariant-loop-place : goal.invariant-loop-place
invariant-loop-place g l = record {
  within : l.place ≤ length l.text;
  behind : l.fn.at ≤ l.place;
  start : l.fn.at ≡ 0 → l.place ≡ 0;
  none : (cell : ℕ → Cell) (place : ℕ) → AreFlatKinds (g.K.KindSource.kinds_of l.table) cell → l.fn.at ≤ place → place < l.place → ¬ (IsSafeIn pieces_of_utf16 cell l.text place);
}

abbrev pub decreases-loop-place : goal.decreases-loop-place
decreases-loop-place g l = length l.text - l.place
