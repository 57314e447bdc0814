use Rattle.std.proofs.Common.{◌≡◌, ◌+◌, ◌<◌, ◌≤◌, ◌⊎◌, count_ones, take}
use Rattle.lbk_passage.specs.Pieces.{IsCutOn}
use Rattle.lbk_passage.specs.Front.{items_of}
use Rattle.lbk_passage.proofs.PieceLemmas.{AreNext}
use Rattle.lbk_passage.proofs.pieces.cut_told.Given as goal

abbrev pub invariant-loop-left : goal.invariant-loop-left
invariant-loop-left g l = record {
  cut : IsCutOn (g.C.CellSource.cell_of l.known.cells.now) l.text l.base (items_of l.fn.pieces) (take l.count l.slots) l.start;
  count : l.count + count_ones l.left ≡ l.fn.pieces.count + count_ones l.fn.ends;
  some : (0 < l.left) ⊎ (l.base < l.start);
  next : AreNext l.text l.base l.start l.left;
  fits : l.left ≤ l.fn.ends;
}

abbrev pub decreases-loop-left : goal.decreases-loop-left
decreases-loop-left g l = l.left
