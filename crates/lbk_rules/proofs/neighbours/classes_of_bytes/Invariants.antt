use Rattle.std.proofs.Common.{◌≡◌, ℕ, ◌+◌, ◌*◌, ◌<◌, [], get_or, length}
use Rattle.lbk_rules.specs.Neighbours.{class_of_byte}
use Rattle.lbk_rules.proofs.neighbours.classes_of_bytes.Given as goal

abbrev pub invariant-loop-row : goal.invariant-loop-row
invariant-loop-row g l = record {
  whole : length l.classes ≡ 8;
  filled : (k : ℕ) → k < l.row → (place : ℕ) → place < 16
      → get_or (get_or l.classes k []) place 0 ≡ class_of_byte (g.K.KindSource.kinds_of l.kinds) (16 * k + place) + 16 * class_of_byte (g.K.KindSource.kinds_of l.kinds) (128 + (16 * k + place));
}
