-- What a `MemorySink` shows.
use Rattle.std.specs.Prelude.{◌≡◌, ℕ, ◌-◌, ◌<◌, ◌≤◌, ◌↔◌, min, List, length, Some, Result, IsErr, IfOk}
use Rattle.lbk_feed.specs.Devices.{Puts}
use Rattle.lbk_feed.specs.declared.traits.Failed.{Failed}
use Rattle.lbk_feed.specs.declared.tally.Tally.{Tally}
use Rattle.lbk_feed.specs.declared.devices.memory_sink.MemorySink.{MemorySink}

-- the bytes that the sink accepted
unfoldable pub sink_bytes : MemorySink → List ℕ
sink_bytes s = s.bytes.items

-- how many bytes the sink accepts in all
unfoldable pub sink_room : MemorySink → ℕ
sink_room s = s.room

-- the most bytes of one write
unfoldable pub most_in_a_write : MemorySink → ℕ
most_in_a_write s = s.most

-- its counts
unfoldable pub sink_tally : MemorySink → Tally
sink_tally s = s.tally

-- a write of these bytes: as many as its size and the room left allow, and it fails where that is none of some
pub record Accepts (old new : MemorySink) (bytes : List ℕ) (result : Result ℕ Failed) : Type 0 where
  pub within : IfOk result (λ n. n ≤ length bytes)
  pub some : 0 < length bytes → IfOk result (λ n. 0 < n)
  pub size : IfOk result (λ n. n ≡ min (min (length bytes) (most_in_a_write old))
      (sink_room old - length (sink_bytes old)))
  pub fails : IsErr result ↔ ((0 < length bytes) × (sink_room old ≤ length (sink_bytes old)))
  pub put : Puts (Some (sink_bytes old)) (Some (sink_bytes new)) result bytes
  pub room : sink_room new ≡ sink_room old
  pub most : most_in_a_write new ≡ most_in_a_write old
