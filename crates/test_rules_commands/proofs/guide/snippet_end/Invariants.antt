use Rattle.std.proofs.Common.{◌≡◌, ◌⊎◌, ℕ, ◌≤◌, ◌<◌}
use Rattle.std.specs.Prelude.{Contains, slice_index_or}
use Rattle.lbk_passage.specs.declared.passage.Segment.{Segment}
use Rattle.test_rules_commands.proofs.guide.snippet_end.Given as goal

-- the segments so far that fit end here or before
abbrev pub invariant-loop-segment : goal.invariant-loop-segment
invariant-loop-segment l = (l.end ≤ l.most)
    × ((l.end ≡ 0) ⊎ ((s : Segment) × Contains l.segments s × (s.end ≡ l.end)))
    × ((k : ℕ) → k < l.segment-index → (other : Segment) → (slice_index_or l.segments k other).end ≤ l.most
    → (slice_index_or l.segments k other).end ≤ l.end)
