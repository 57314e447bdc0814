-- The segments of a passage: its cutting at its breaks, each with the kind and rule at its end (UAX #14, section 3).
use Rattle.std.specs.Prelude.{ℕ, ◌+◌, List, [], ◌∷◌, length, encode_utf8, if◌then◌else◌}
use Rattle.lbk_rules.specs.declared.Verdict.{Verdict}
use Rattle.lbk_rules.specs.Marks.{Marked}
use Rattle.lbk_rules.specs.Breaks.{is_no}
use Rattle.lbk_passage.specs.declared.passage.Segment.{Segment}

-- a segment of the bytes from `start` to `end` of its passage, which ends by this verdict
abbrev pub segment_by : ℕ → ℕ → Verdict → Segment
segment_by start end verdict = record { start = start; end = end; kind = verdict.kind; rule = verdict.rule }

-- the segments that end after some marks: the first begins at byte `start`, the first scalar of the marks at `at`
abbrev pub segments_from : ℕ → ℕ → List Marked → List Segment
segments_from start at [] = []
segments_from start at (m ∷ ms) =
    let end = at + length (encode_utf8 m.scalar) in
    if is_no m.after.kind then segments_from start end ms
    else segment_by start end m.after ∷ segments_from end end ms

-- the segments of a passage
unfoldable pub segments_of : List Marked → List Segment
segments_of ms = segments_from 0 0 ms
