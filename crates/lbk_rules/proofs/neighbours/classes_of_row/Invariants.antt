use Rattle.std.proofs.Common.{◌≡◌, ℕ, ◌+◌, ◌*◌, ◌<◌, get_or, length}
use Rattle.lbk_rules.specs.Neighbours.{class_of_byte}
use Rattle.lbk_rules.proofs.neighbours.classes_of_row.Given as goal

abbrev pub invariant-loop-place : goal.invariant-loop-place
invariant-loop-place g l = record {
  whole : length l.classes ≡ 16;
  filled : (k : ℕ) → k < l.place
      → get_or l.classes k 0 ≡ class_of_byte (g.K.KindSource.kinds_of l.kinds) (16 * l.row + k) + 16 * class_of_byte (g.K.KindSource.kinds_of l.kinds) (128 + (16 * l.row + k));
}
