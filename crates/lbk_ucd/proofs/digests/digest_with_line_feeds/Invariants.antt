use Rattle.std.proofs.Common.{◌≡◌, ℕ, List, ◌++◌, ◌≤◌, length}
use Rattle.sha2.specs.Hashers.{Holds256}
use Rattle.lbk_ucd.specs.Digests.{with_line_feeds}
use Rattle.lbk_ucd.proofs.digests.digest_with_line_feeds.Given as goal

abbrev pub invariant-lines : goal.invariant-lines
invariant-lines l =
    (length l.rest ≤ length l.fn.bytes)
    × ((given : List ℕ) × Holds256 l.hasher given × (given ++ with_line_feeds l.rest ≡ with_line_feeds l.fn.bytes))

abbrev pub decreases-lines : goal.decreases-lines
decreases-lines l = length l.rest
