-- Segments that a text is cut into.
use Rattle.std.specs.Prelude.{◌≡◌, ℕ, ◌≤◌, List, [], ◌∷◌, length, IsCharBoundary}
use Rattle.lbk_passage.specs.declared.passage.Segment.{Segment}

-- some segments, one after another, between scalars, the first from this byte of the text on
abbrev pub AreCuttingFrom : ℕ → List ℕ → List Segment → Type 0
AreCuttingFrom at text [] = at ≡ length text
AreCuttingFrom at text (s ∷ ss) =
    (s.start ≡ at) × (at ≤ s.end) × IsCharBoundary text s.end × AreCuttingFrom s.end text ss

-- they are all of it
abbrev pub AreCutting : List ℕ → List Segment → Type 0
AreCutting text segments = AreCuttingFrom 0 text segments
