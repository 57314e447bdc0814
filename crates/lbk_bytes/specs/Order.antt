-- What holds of the breaks that are given, whatever the table and the state.
use Rattle.std.specs.Prelude.{◌≡◌, ℕ, ◌<◌, ◌≤◌, false, List, slice_index_or}
use Rattle.lbk_rules.specs.declared.Break.{Break}
use Rattle.lbk_rules.specs.Breaks.{is_no}
use Rattle.lbk_bytes.specs.declared.raw_break.RawBreak.{RawBreak}
use Rattle.lbk_bytes.specs.Shown.{raw_of}

-- a break that stands nowhere
abbrev pub no_break : RawBreak
no_break = record { at = 0; kind = 0; rule = 0 }

-- the numbers are those of a position: a rule of the annex says this of it
abbrev pub IsPosition : RawBreak → Type 0
IsPosition raw = (found : Break) × (raw ≡ raw_of found)

-- the numbers are those of a break: a line may or must end there, by a rule of the annex
abbrev pub IsBreak : RawBreak → Type 0
IsBreak raw = (found : Break) × (raw ≡ raw_of found) × (is_no found.kind ≡ false)

-- what stands in the front of a block are breaks
abbrev pub AreBreaks : List RawBreak → ℕ → Type 0
AreBreaks block count = (k : ℕ) → k < count → IsBreak (slice_index_or block k no_break)

-- what stands in the front of a block is such as `Is` says, none of it before byte `from`, all before byte `to`, each
-- behind those before it
pub record AreInOrderBy (Is : RawBreak → Type 0) (block : List RawBreak) (count from to : ℕ) : Type 0 where
  pub each : (k : ℕ) → k < count → Is (slice_index_or block k no_break)
  pub within : (k : ℕ) → k < count → (from ≤ (slice_index_or block k no_break).at)
      × ((slice_index_or block k no_break).at < to)
  pub rising : (k : ℕ) → k < count → (j : ℕ) → j < k
      → (slice_index_or block j no_break).at < (slice_index_or block k no_break).at

-- the same of breaks, and of positions
abbrev pub AreInOrder : List RawBreak → ℕ → ℕ → ℕ → Type 0
AreInOrder = AreInOrderBy IsBreak

abbrev pub ArePositionsInOrder : List RawBreak → ℕ → ℕ → ℕ → Type 0
ArePositionsInOrder = AreInOrderBy IsPosition
