-- What the calls promise that pack a table and unpack it: each clause once.
use Rattle.std.specs.Prelude.{◌≡◌, ℕ, ◌<◌, ◌≤◌, ◌⊎◌, ◌++◌, List, drop, length}
use Rattle.lbk_rules.specs.declared.Cell.{Cell}
use Rattle.lbk_rules.specs.declared.flat_table.FlatTable.{FlatTable}
use Rattle.lbk_rules.specs.declared.flat_table.TheConstants.{LAYOUT}
use Rattle.lbk_rules.specs.FlatTable.{AreFlatKinds, AreKinds, IsFlatOf, IsWhole}
use Rattle.lbk_calls.specs.Packing.{packed}
use Rattle.lbk_calls.specs.Refused.{IsCause}

-- the packed form of a table is written to the front of some bytes if it fits there, and its size is the result
pub record Packs (table : FlatTable) (old new : List ℕ) (result : ℕ) : Type 0 where
  pub corrupt : ¬ (IsWhole table) → result ≡ 0
  pub size : IsWhole table → result ≡ length (packed LAYOUT table.kinds)
  pub form : IsWhole table → result ≤ length old → new ≡ packed LAYOUT table.kinds ++ drop result old
  pub untouched : (result ≡ 0) ⊎ (length old < result) → new ≡ old

-- a table is filled from its packed form; the cause is 0, or the number of why the bytes are refused
pub record Unpacks (bytes : List ℕ) (old new : FlatTable) (cause : ℕ) : Type 0 where
  pub form : cause ≡ 0 → bytes ≡ packed LAYOUT new.kinds
  pub whole : cause ≡ 0 → IsWhole new
  pub table : cause ≡ 0 → (cell : ℕ → Cell) → AreFlatKinds new.kinds cell → IsFlatOf new cell
  pub each : (kinds : List ℕ) → length kinds ≡ 0x11_0000 → AreKinds kinds → bytes ≡ packed LAYOUT kinds
      → (cause ≡ 0) × (new.kinds ≡ kinds)
  pub refused : 0 < cause → IsCause bytes cause
  pub untouched : (cause ≡ 11) ⊎ (cause ≡ 12) → new ≡ old
  pub spoilt : cause ≡ 13 → new.layout ≡ 0
