-- Rows sorted by code point, rows laid over others, and the marks of the code points that rows have.
use Rattle.std.specs.Prelude.{ℕ, ◌<◌, ◌≤◌, ◌≡◌, List, length}
use Rattle.std.specs.Option.{option_or}
use Rattle.std.specs.List.{All, AllPairs, AllWithin, list_any}
use Rattle.lbk_masks.specs.Bits.{is_marked}
use Rattle.lbk_ucd.specs.declared.ranges.Row.{Row}
use Rattle.lbk_ucd.specs.declared.span.Span.{Span}
use Rattle.lbk_ucd.specs.Rows.{holds, first_value}

-- a row does not end before it begins, and its last code point is at most 10FFFF
abbrev pub IsRange : {V : Type 0} → Row V → Type 0
IsRange row = (row.first ≤ row.last) × (row.last ≤ 0x10FFFF)

-- code points with a value
abbrev pub row_of : {V : Type 0} → Span → V → Row V
row_of span value = record { first = span.first; last = span.last; value = value }

-- each row is such, and ends before the next begins
pub record IsInOrder {V : Type 0} (rows : List (Row V)) : Type 0 where
  pub each : All IsRange rows
  pub apart : AllPairs (λ row later. row.last < later.first) rows

-- a place among the rows: those before it end before a code point, the others do not
pub record IsFirstFrom {V : Type 0} (rows : List (Row V)) (code at : ℕ) : Type 0 where
  pub within : at ≤ length rows
  pub before : AllWithin (λ row. row.last < code) rows 0 at
  pub after : AllWithin (λ row. code ≤ row.last) rows at (length rows)

-- all from a code point up to a last one have one value
pub record IsStretch {A : Type 0} (value_at : ℕ → A) (code last : ℕ) (value : A) : Type 0 where
  pub onward : code ≤ 0x10FFFF → code ≤ last
  pub most : last ≤ 0x10FFFF
  pub same : (k : ℕ) → code ≤ k → k ≤ last → value_at k ≡ value

-- in the result a code point has its value in over, or else in under
abbrev pub IsOverlay : {V : Type 0} → List (Row V) → List (Row V) → List (Row V) → Type 0
IsOverlay under over result = (code : ℕ)
    → first_value code result ≡ option_or (first_value code over) (first_value code under)

-- a code point is marked exactly if a row has it
abbrev pub AreMarked : {V : Type 0} → List (Row V) → List ℕ → Type 0
AreMarked rows words = (code : ℕ) → is_marked words code ≡ list_any (holds code) rows
