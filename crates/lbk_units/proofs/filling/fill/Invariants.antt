use Rattle.std.proofs.Common.{◌≡◌, ◌+◌, ◌-◌, ℕ, length}
use Rattle.lbk_rules.specs.declared.Cell.{Cell}
use Rattle.lbk_rules.specs.FlatTable.{IsFlatBy}
use Rattle.lbk_units.specs.Filling.{GivesOf, GoesOn}
use Rattle.lbk_units.specs.Reached.{on_from}
use Rattle.lbk_units.proofs.filling.fill.Given as goal

abbrev pub invariant-loop-here : goal.invariant-loop-here
invariant-loop-here g l = record {
  goes_on : GoesOn g.T.Target.entry (length l.text) l.fn.out l.fn.start l.out l.here;
  no_room : length l.out ≡ 0 → l.here ≡ l.fn.start;
  gives : (cell : ℕ → Cell) → IsFlatBy (g.K.KindSource.kinds_of l.fn.table) (g.K.KindSource.pairs_of l.fn.table) cell
      → GivesOf g.T.Target.onward l.fn.profile cell (on_from g.U.Unit.pieces_of l.text) l.fn.out l.fn.start l.out l.here;
}

abbrev pub decreases-loop-here : goal.decreases-loop-here
decreases-loop-here g l = length l.text + length l.out - (l.here.at + l.here.count)
