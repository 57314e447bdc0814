use Rattle.std.proofs.Common.{◌≡◌, ◌-◌, ◌≤◌, ℕ, length, map}
use Rattle.lbk_rules.specs.declared.Cell.{Cell}
use Rattle.lbk_rules.specs.Classes.{hard}
use Rattle.lbk_rules.specs.FlatTable.{AreFlatKinds}
use Rattle.lbk_rules.specs.Normal.{normal}
use Rattle.lbk_rules.specs.Sides.{leaves_closed}
use Rattle.lbk_rules.specs.Units.{units_after}
use Rattle.lbk_bytes.specs.Reached.{scalars_of}
use Rattle.lbk_bytes.proofs.UnitLemmas.{cells_on}
use Rattle.lbk_bytes.proofs.ahead.closes_ahead.Given as goal

abbrev pub invariant-loop-at : goal.invariant-loop-at
invariant-loop-at g l = record {
  within : l.at ≤ length l.rest;
  same : (cell : ℕ → Cell) → AreFlatKinds (g.K.KindSource.kinds_of l.table) cell
      → leaves_closed (units_after l.fresh (cells_on g.U.Unit.pieces_of cell l.at l.rest))
      ≡ leaves_closed (units_after (hard (normal (cell l.fn.c)).class) (map normal (map cell (scalars_of (g.U.Unit.pieces_of l.rest)))));
}

abbrev pub decreases-loop-at : goal.decreases-loop-at
decreases-loop-at g l = length l.rest - l.at
