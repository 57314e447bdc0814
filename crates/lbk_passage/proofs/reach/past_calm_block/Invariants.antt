use Rattle.std.proofs.Common.{◌≡◌, ℕ, ◌+◌, ◌<◌, true, false}
use Rattle.lbk_masks.specs.Sets.{is_set}
use Rattle.lbk_passage.specs.Flags.{AreCalm}
use Rattle.lbk_passage.proofs.reach.past_calm_block.Given as goal

abbrev pub invariant-loop-left : goal.invariant-loop-left
invariant-loop-left g l = record {
  same : (i : ℕ) → i < 64 → is_set l.left i ≡ true → is_set l.fn.loud i ≡ true;
  calm : (i : ℕ) → i < 64 → is_set l.left i ≡ false
      → AreCalm (g.C.CellSource.cell_of l.known.cells.now) l.piece (l.start + i) (l.start + i + 1);
}

abbrev pub decreases-loop-left : goal.decreases-loop-left
decreases-loop-left g l = l.left
