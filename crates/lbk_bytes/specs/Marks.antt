-- Breaks as bits: one for each byte of a text from a place on.
use Rattle.std.specs.Prelude.{ℕ, ◌+◌, ◌==◌, ◌||◌, Bool, false, not, List, [], ◌∷◌, drop, get_or, nat_le}
use Rattle.std.specs.Prelude.{if◌then◌else◌}
use Rattle.bstr.specs.Utf8.{Decoded, pieces}
use Rattle.lbk_rules.specs.declared.Break.{Break}
pub use Rattle.lbk_masks.specs.Bits.{is_marked}

-- whether one of the breaks stands before this byte
abbrev pub stands_among : ℕ → List Break → Bool
stands_among place [] = false
stands_among place (b ∷ bs) = (b.at == place) || stands_among place bs

-- the breaks before this byte or behind it
abbrev pub from_on : ℕ → List Break → List Break
from_on place [] = []
from_on place (b ∷ bs) = if nat_le place b.at then b ∷ from_on place bs else from_on place bs

-- pieces stand one after another from byte `at` on: the first byte from `place` on at which one begins, or else the
-- end of all
abbrev pub boundary_among : ℕ → ℕ → List Decoded → ℕ
boundary_among place at [] = at
boundary_among place at (p ∷ ps) = if nat_le place at then at else boundary_among place (at + p.size) ps

-- the same of the scalars of a text, which are read from byte `at` on
abbrev pub boundary_from : List ℕ → ℕ → ℕ → ℕ
boundary_from text at place = boundary_among place at (pieces (drop at text))

-- bits of a word are set for some breaks, and the kinds of other verdicts stand in numbers, one for each byte: whether a
-- line may or must break before this byte
abbrev pub breaks_at : ℕ → List ℕ → ℕ → Bool
breaks_at word kinds i = is_marked (word ∷ []) i || not (get_or kinds i 0 == 0)
