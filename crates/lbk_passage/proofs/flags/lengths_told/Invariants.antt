use Rattle.std.proofs.Common.{◌≡◌, ℕ, ◌<◌, ◌≤◌, true, false, length, slice_index_or}
use Rattle.std.specs.Char.{IsScalar}
use Rattle.lbk_rules.specs.FirstBytes.{first_byte}
use Rattle.lbk_passage.specs.Flags.{length_told}
use Rattle.lbk_passage.proofs.flags.lengths_told.Given as goal

abbrev pub invariant-loop-byte : goal.invariant-loop-byte
invariant-loop-byte g l = record {
  whole : length l.lengths ≡ 256;
  told : (k : ℕ) → k < l.byte → slice_index_or l.lengths k 0 ≡ length_told (slice_index_or l.are_letters k false);
}

abbrev pub invariant-loop-byte-2 : goal.invariant-loop-byte-2
invariant-loop-byte-2 g l =
    let cell = g.C.CellSource.cell_of l.cells in
    record {
      whole : length l.lengths ≡ 256;
      told : (k : ℕ) → k < l.byte → slice_index_or l.lengths k 0 ≡ length_told (cell k).letter;
      longer : (code : ℕ) → IsScalar code → 128 ≤ code → 1 < slice_index_or l.lengths (first_byte code) 0 → (cell code).letter ≡ true;
    }
