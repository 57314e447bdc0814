-- The segments of a text: its cutting at its breaks, each with the kind and rule at its end (UAX #14, section 3).
use Rattle.std.specs.Prelude.{◌≡◌, ℕ, ◌≤◌, List, [], ◌∷◌, ⊤, drop, length, map, min, take}
use Rattle.lbk_rules.specs.declared.Break.{Break}
use Rattle.lbk_bytes.specs.declared.raw_break.RawBreak.{RawBreak}
use Rattle.lbk_bytes.specs.Order.{IsBreak}
use Rattle.lbk_bytes.specs.Shown.{raw_of}
use Rattle.lbk_calls.specs.declared.interface.State.{State}
use Rattle.lbk_c.specs.declared.segments.Segment.{Segment}
use Rattle.lbk_c.specs.declared.segments.SegmentState.{SegmentState}

-- the segment that ends at a break
abbrev pub segment_to : ℕ → RawBreak → Segment
segment_to start end = record { start = start; end = end.at; kind = end.kind; rule = end.rule }

-- the segments that end at these breaks: the first begins at byte `start`, and each other where the one before it ends
abbrev pub segments_between : ℕ → List RawBreak → List Segment
segments_between start [] = []
segments_between start (end ∷ ends) = segment_to start end ∷ segments_between end.at ends

-- where the segment behind those begins
abbrev pub next_start : ℕ → List RawBreak → ℕ
next_start start [] = start
next_start start (end ∷ ends) = next_start end.at ends

-- the break at the end of a segment
abbrev pub end_of : Segment → RawBreak
end_of s = record { at = s.end; kind = s.kind; rule = s.rule }

-- each segment is within a text of this size, and ends at a break
abbrev pub AreWithin : ℕ → List Segment → Type 0
AreWithin size [] = ⊤
AreWithin size (s ∷ segments) = (s.start ≤ s.end) × (s.end ≤ size) × IsBreak (end_of s) × AreWithin size segments

-- if these breaks are to come from a state on, the call gives the segments that end at them, as many as it has room
-- for, and the other breaks are to come from the new state on
pub record SegmentsNext (Come : State → List Break → Type 0) (old new : SegmentState) (room : ℕ) (out : List Segment)
    (result : ℕ) (to_come : List Break) : Type 0 where
  pub count : result ≡ min room (length to_come)
  pub front : take result out ≡ segments_between old.start (map raw_of (take result to_come))
  pub next : new.start ≡ next_start old.start (map raw_of (take result to_come))
  pub rest : Come new.breaks (drop result to_come)
