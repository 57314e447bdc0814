use Rattle.std.proofs.Common.{◌≡◌, drop}
use Rattle.lbk_uax14.specs.Units.{units_after}
use Rattle.lbk_uax14.proofs.evaluator.leaves_closed.Given as goal

abbrev pub invariant-loop-cell : goal.invariant-loop-cell
invariant-loop-cell l = units_after l.heads (drop l.cell-index l.cells) ≡ units_after l.fresh l.cells
