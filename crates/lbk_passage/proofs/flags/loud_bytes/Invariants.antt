use Rattle.std.proofs.Common.{◌≡◌, ℕ, ◌<◌, false, not, slice_index_or}
use Rattle.lbk_masks.specs.Sets.{is_in}
use Rattle.lbk_passage.proofs.flags.loud_bytes.Given as goal

abbrev pub invariant-loop-byte : goal.invariant-loop-byte
invariant-loop-byte l = (k : ℕ) → k < l.byte → is_in l.sets 255 k ≡ not (slice_index_or l.is_quiet k false)
