use Rattle.std.proofs.Common.{◌≡◌, ℕ, ◌<◌, ◌≤◌, get_or, length, true}
use Rattle.lbk_ucd.specs.PropertyLine.{is_space}
use Rattle.lbk_ucd.proofs.property_line.trimmed_start.Given as goal

abbrev pub invariant-loop-place : goal.invariant-loop-place
invariant-loop-place l = (l.place ≤ length l.bytes) × ((k : ℕ) → k < l.place → is_space (get_or l.bytes k 0) ≡ true)
