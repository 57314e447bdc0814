-- Cuts and breaks in rising order between two bytes.
use Rattle.std.specs.Prelude.{ℕ, ◌<◌, ◌≤◌, List, [], ◌∷◌}
use Rattle.std.specs.Coded.{×_prop, le_prop}
use Rattle.lbk_rules.specs.declared.Break.{Break}
use Rattle.lbk_chunks.specs.declared.cut.Cut.{Cut}

-- past the first byte, and not past the second
abbrev pub AreCutsBetween : ℕ → List Cut → ℕ → Type 0
AreCutsBetween from [] to = from ≤ to
AreCutsBetween from (c ∷ cs) to = (from < c.at) × AreCutsBetween c.at cs to

abbrev pub AreBreaksBetween : ℕ → List Break → ℕ → Type 0
AreBreaksBetween from [] to = from ≤ to
AreBreaksBetween from (b ∷ bs) to = (from < b.at) × AreBreaksBetween b.at bs to

-- there is at most one proof that cuts are in this order
pub AreCutsBetween-prop : (from : ℕ) (cs : List Cut) (to : ℕ) → IsProp (AreCutsBetween from cs to)
AreCutsBetween-prop from [] to = le_prop
AreCutsBetween-prop from (c ∷ cs) to = ×_prop le_prop (AreCutsBetween-prop c.at cs to)
