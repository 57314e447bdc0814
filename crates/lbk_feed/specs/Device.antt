-- What a `Device` shows: its inner reader or writer, and its counts.
use Rattle.std.specs.Prelude.{◌≡◌, ℕ, ◌<◌, Bool, ◌⊎◌, Result, Ok, Err, IsErr}
use Rattle.lbk_feed.specs.Devices.{Reads}
use Rattle.lbk_feed.specs.declared.adapter.Device.{Device}

-- the reader or the writer of std
unfoldable pub inner_of : {D : Type 0} → Device D → D
inner_of d = d.inner

-- how many reads were made, and how many bytes the last one returned
unfoldable pub reads_of : {D : Type 0} → Device D → Reads
reads_of d = record { count = d.tally.reads; gave = d.tally.gave }

-- how many calls failed
unfoldable pub failures_of : {D : Type 0} → Device D → ℕ
failures_of d = d.tally.failures

-- whether a read with room returned no byte
unfoldable pub has_met_end : {D : Type 0} → Device D → Bool
has_met_end d = d.tally.ended

-- the result of a read, for the outcome of the inner one: its count, and a failure for each error
abbrev pub Passes : {E F : Type 0} → Result ℕ E → Result ℕ F → Type 0
Passes (Ok n) result = result ≡ Ok n
Passes (Err _) result = IsErr result

-- the result of a write of so many bytes, likewise; a count of 0 is a failure where there are bytes
abbrev pub PassesSome : {E F : Type 0} → ℕ → Result ℕ E → Result ℕ F → Type 0
PassesSome size (Ok n) result = (result ≡ Ok n) ⊎ ((n ≡ 0) × (0 < size) × IsErr result)
PassesSome _ (Err _) result = IsErr result
