use Rattle.std.proofs.Common.{◌≡◌, ℕ, ◌<◌, ◌≤◌, true, false, length, get_or}
use Rattle.lbk_rules.specs.FirstBytes.{first_byte}
use Rattle.lbk_rules.proofs.first_bytes.leave_out.Given as goal

abbrev pub invariant-loop-byte : goal.invariant-loop-byte
invariant-loop-byte l = record {
  whole : length l.flags ≡ 256;
  gone : (k : ℕ) → first_byte l.fn.first ≤ k → k < l.byte → get_or l.flags k false ≡ false;
  others : (byte : ℕ) → get_or l.flags byte false ≡ true → get_or l.fn.flags byte false ≡ true;
}
