use Rattle.std.proofs.Common.{◌≡◌, ℕ, ◌<◌, get_or, length}
use Rattle.lbk_rules.specs.Neighbours.{row_of_byte}
use Rattle.lbk_rules.proofs.neighbours.rows_of_bytes.Given as goal

abbrev pub invariant-loop-byte : goal.invariant-loop-byte
invariant-loop-byte g l = record {
  whole : length l.rows ≡ 256;
  filled : (k : ℕ) → k < l.byte → get_or l.rows k 0 ≡ row_of_byte (g.K.KindSource.kinds_of l.kinds) k;
}
