-- Ranges of code points with a value, and the value of a code point in lists of them.
use Rattle.std.specs.Prelude.{ℕ, true, Bool, ◌&&◌, nat_le, List, reverse, Option, unwrap_or, ◌≡◌}
use Rattle.std.specs.Option.{option_map}
use Rattle.std.specs.List.{find}
use Rattle.lbk_ucd.specs.declared.ranges.Row.{Row}

-- whether a row has a code point
abbrev pub holds : {V : Type 0} → ℕ → Row V → Bool
holds code row = nat_le row.first code && nat_le code row.last

-- whether a row has a code point from first to last
abbrev pub shares : {V : Type 0} → ℕ → ℕ → Row V → Bool
shares first last row = nat_le row.first last && nat_le first row.last

-- no code point is in both rows
abbrev pub AreApart : {V : Type 0} → Row V → Row V → Type 0
AreApart row other = (code : ℕ) → holds code row ≡ true → holds code other ≡ true → ⊥

-- the value of the first row that has a code point
abbrev pub first_value : {V : Type 0} → ℕ → List (Row V) → Option V
first_value code rows = option_map (λ row. row.value) (find (holds code) rows)

-- the value of the row that has a code point, else that of the last default that has it, else the value of unlisted
-- code points
abbrev pub value_at : {V : Type 0} → List (Row V) → List (Row V) → V → ℕ → V
value_at rows defaults unlisted code =
    unwrap_or (first_value code rows) (unwrap_or (first_value code (reverse defaults)) unlisted)
