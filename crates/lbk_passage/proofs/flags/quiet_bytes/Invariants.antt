use Rattle.std.proofs.Common.{◌≡◌, ℕ, ◌-◌, ◌<◌, ◌≤◌, true, false, length, slice_index_or}
use Rattle.lbk_rules.specs.FirstBytes.{AreQuiet}
use Rattle.lbk_passage.proofs.flags.quiet_bytes.Given as goal

abbrev pub invariant-loop-byte : goal.invariant-loop-byte
invariant-loop-byte g l = record {
  quiet : AreQuiet (g.C.CellSource.cell_of l.cells) l.is_quiet;
  quiet_len : length l.is_quiet ≡ 256;
  within : l.byte ≤ 128;
}

abbrev pub decreases-loop-byte : goal.decreases-loop-byte
decreases-loop-byte g l = 128 - l.byte

abbrev pub invariant-loop-byte-2 : goal.invariant-loop-byte-2
invariant-loop-byte-2 g l = record {
  quiet : AreQuiet (g.C.CellSource.cell_of l.cells) l.is_quiet;
  later : (k : ℕ) → 128 ≤ k → k < l.byte → slice_index_or l.is_quiet k false ≡ true;
  quiet_len : length l.is_quiet ≡ 256;
  from : 128 ≤ l.byte;
  within : l.byte ≤ 192;
}

abbrev pub decreases-loop-byte-2 : goal.decreases-loop-byte-2
decreases-loop-byte-2 g l = 192 - l.byte
