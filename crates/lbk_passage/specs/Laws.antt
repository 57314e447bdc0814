-- What the laws say of passages.
use Rattle.std.specs.Prelude.{◌≡◌, ℕ, ◌+◌, Bool, true, false, List, [], ◌∷◌, ◌++◌, map, length}
use Rattle.std.specs.List.{flat_map}
use Rattle.lbk_rules.specs.declared.Break.{Break}
use Rattle.lbk_rules.specs.declared.Cell.{Cell}
use Rattle.lbk_values.specs.declared.profile.Profile.{Profile}
use Rattle.lbk_rules.specs.Marks.{Marked, scalars_of, text_of}
use Rattle.lbk_passage.specs.Passages.{ends_passage, passages}
use Rattle.lbk_passage.specs.Segments.{segments_of}
use Rattle.lbk_passage.specs.declared.passage.Segment.{Segment}

-- the passages of two texts joined are some of the earlier one, and then those of the later one alone
pub record IsBehind (profile : Profile) (cell : ℕ → Cell) (earlier text : List ℕ) : Type 0 where
  pub given : List (List Marked)
  pub scalars : flat_map scalars_of given ≡ earlier
  pub joined : passages profile cell (earlier ++ text) ≡ given ++ passages profile cell text

-- of these elements the last ends a part, and no other
abbrev pub IsPart : {A : Type 0} → (A → Bool) → List A → Type 0
IsPart ends [] = ⊥
IsPart ends (x ∷ []) = ends x ≡ true
IsPart ends (x ∷ y ∷ xs) = (ends x ≡ false) × IsPart ends (y ∷ xs)

-- a line must end after the last of these marks, and after no other
abbrev pub EndsOnce : List Marked → Type 0
EndsOnce ms = IsPart ends_passage ms

-- the break at the end of a segment, whose passage begins at byte `start` of the text
abbrev pub break_at : ℕ → Segment → Break
break_at start s = record { at = start + s.end; kind = s.kind; rule = s.rule }

-- the breaks at the ends of all segments of some passages, of which the first begins at byte `start` of the text
abbrev pub segment_breaks : ℕ → List (List Marked) → List Break
segment_breaks start [] = []
segment_breaks start (ms ∷ passages) =
    map (break_at start) (segments_of ms) ++ segment_breaks (start + length (text_of ms)) passages
