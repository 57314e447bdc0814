-- The counts of a device.
use Rattle.std.specs.Prelude.{◌≡◌, ℕ, false, Result}
use Rattle.lbk_feed.specs.Devices.{Reads, count_up, given_by, failures_after, ended_after}
use Rattle.lbk_feed.specs.declared.tally.Tally.{Tally}

-- its reads
abbrev pub reads_in : Tally → Reads
reads_in t = record { count = t.reads; gave = t.gave }

-- before any call
pub record IsFresh (t : Tally) : Type 0 where
  pub reads : t.reads ≡ 0
  pub gave : t.gave ≡ 0
  pub failures : t.failures ≡ 0
  pub ended : t.ended ≡ false

-- a read into `room` bytes with result r was counted
pub record CountsRead {E : Type 0} (old new : Tally) (r : Result ℕ E) (room : ℕ) : Type 0 where
  pub reads : new.reads ≡ count_up old.reads
  pub gave : new.gave ≡ given_by r
  pub failures : new.failures ≡ failures_after old.failures r
  pub ended : new.ended ≡ ended_after old.ended r room
