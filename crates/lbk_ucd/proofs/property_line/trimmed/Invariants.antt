use Rattle.std.proofs.Common.{◌≡◌, ◌+◌, ◌≤◌, length, take}
use Rattle.std.specs.List.{suffix_len}
use Rattle.lbk_ucd.specs.PropertyLine.{is_space}
use Rattle.lbk_ucd.proofs.property_line.trimmed.Given as goal

abbrev pub invariant-loop-end : goal.invariant-loop-end
invariant-loop-end l =
    (l.end ≤ length l.rest) × (l.end + suffix_len is_space l.rest ≡ length l.rest + suffix_len is_space (take l.end l.rest))

abbrev pub decreases-loop-end : goal.decreases-loop-end
decreases-loop-end l = l.end
