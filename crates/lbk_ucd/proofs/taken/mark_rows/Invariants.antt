use Rattle.std.proofs.Common.{◌≡◌, ℕ, length, take}
use Rattle.std.specs.List.{list_any}
use Rattle.lbk_masks.specs.Bits.{is_marked}
use Rattle.lbk_ucd.specs.Rows.{holds}
use Rattle.lbk_ucd.proofs.taken.mark_rows.Given as goal

abbrev pub invariant-loop-row : goal.invariant-loop-row
invariant-loop-row g l = record {
  room : length l.words ≡ 17408;
  marked : (code : ℕ) → is_marked l.words code ≡ list_any (holds code) (take l.row-index l.ranges.rows.now);
}
