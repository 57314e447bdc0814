-- Bytes that are added to a list.
use Rattle.std.specs.Prelude.{◌≡◌, ℕ, List, ◌++◌, length, take, Result, OnOk}

-- the list has the bytes behind what it had, or after an error some of them; what it had stays
pub record Adds {X Y : Type 0} (old new bytes : List ℕ) (result : Result X Y) : Type 0 where
  pub all : OnOk result (new ≡ old ++ bytes)
  pub kept : take (length old) new ≡ old
