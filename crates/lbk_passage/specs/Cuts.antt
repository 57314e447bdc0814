-- Segments between breaks.
use Rattle.std.specs.Prelude.{ℕ, ◌+◌, ◌-◌, ◌<◌, ◌≤◌, List, [], ◌∷◌, if◌then◌else◌}
use Rattle.lbk_rules.specs.declared.Break.{Break}
use Rattle.lbk_rules.specs.declared.Verdict.{Verdict}
use Rattle.lbk_passage.specs.declared.passage.Segment.{Segment}
use Rattle.lbk_rules.specs.Breaks.{is_no}
use Rattle.lbk_passage.specs.Passages.{is_must}
use Rattle.lbk_passage.specs.Segments.{segment_by}

-- those that end at these breaks, the first from `start` on
abbrev pub cut_at : ℕ → List Break → List Segment
cut_at start [] = []
cut_at start (b ∷ bs) = record { start = start; end = b.at; kind = b.kind; rule = b.rule } ∷ cut_at b.at bs

-- a segment with another verdict at its end, where a line may break there
abbrev pub ending_by : Verdict → Segment → List Segment
ending_by end s = if is_no end.kind then [] else segment_by s.start s.end end ∷ []

-- the segments that end at the breaks of several passages, each as its passage counts: the first passage begins at byte
-- `base`, and another one behind each break at which a line must end
abbrev pub cut_on : ℕ → ℕ → List Break → List Segment
cut_on base start [] = []
cut_on base start (b ∷ bs) = record { start = start; end = b.at - base; kind = b.kind; rule = b.rule }
    ∷ cut_on (if is_must b.kind then b.at else base) (if is_must b.kind then 0 else b.at - base) bs

-- the places of the breaks at which a line must end, where that of the first break is `k`
abbrev pub musts : ℕ → List Break → List ℕ
musts k [] = []
musts k (b ∷ bs) = if is_must b.kind then k ∷ musts (k + 1) bs else musts (k + 1) bs

-- the first does not stand before byte `from`, none before the one before it, and all before byte `to`
abbrev pub AreRising : ℕ → ℕ → List Break → Type 0
AreRising from to [] = Unit {0}
AreRising from to (b ∷ bs) = (from ≤ b.at) × (b.at < to) × AreRising b.at to bs
