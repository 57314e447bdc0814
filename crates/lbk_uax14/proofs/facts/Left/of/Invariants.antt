use Rattle.std.proofs.Common.{◌≡◌, reverse, take}
use Rattle.lbk_uax14.specs.Facts.{facts}
use Rattle.lbk_uax14.proofs.facts.Left.of.Given as goal

abbrev pub invariant-loop-cell : goal.invariant-loop-cell
invariant-loop-cell l = l.left ≡ facts (reverse (take l.cell-index l.cells))
