-- What a `MemorySource` shows.
use Rattle.std.specs.Prelude.{◌≡◌, ℕ, ◌-◌, ◌^◌, ◌≤◌, ◌↔◌, max, min, List, [], ◌∷◌, length, Option, Some, Result}
use Rattle.std.specs.Prelude.{None, IsErr, IfOk, OnOk, OnErr}
use Rattle.lbk_feed.specs.Devices.{Takes}
use Rattle.lbk_feed.specs.declared.traits.Failed.{Failed}
use Rattle.lbk_feed.specs.declared.tally.Tally.{Tally}
use Rattle.lbk_feed.specs.Tally.{IsFresh}
use Rattle.lbk_feed.specs.declared.devices.memory_source.MemorySource.{MemorySource}

-- the unread bytes of the source
unfoldable pub source_bytes : MemorySource → List ℕ
source_bytes s = s.rest.now

-- the most bytes of each of the next reads; the last number is for all later ones
unfoldable pub source_sizes : MemorySource → List ℕ
source_sizes s = s.sizes.now

-- the number of the read that fails
unfoldable pub failing_read : MemorySource → Option ℕ
failing_read s = s.failing

-- the most bytes of the next read; a size of 0 counts as 1
abbrev pub next_size_of : List ℕ → ℕ
next_size_of [] = 2 ^ 64 - 1
next_size_of (n ∷ _) = max n 1

-- the sizes for the reads after one that did not fail
abbrev pub later_sizes : List ℕ → List ℕ
later_sizes [] = []
later_sizes (n ∷ []) = n ∷ []
later_sizes (n ∷ m ∷ sizes) = m ∷ sizes

-- its counts
unfoldable pub source_tally : MemorySource → Tally
source_tally s = s.tally

-- a source of these bytes, with reads of these sizes, before any call
pub record IsSourceOf (content cuts : List ℕ) (s : MemorySource) : Type 0 where
  pub bytes : source_bytes s ≡ content
  pub sizes : source_sizes s ≡ cuts
  pub failing : failing_read s ≡ None
  pub fresh : IsFresh (source_tally s)

-- a read into a buffer of this room: the read with that number fails, and any other takes as many bytes as its size, the
-- room and the unread ones allow
pub record Gives (old new : MemorySource) (room : ℕ) (buf : List ℕ) (result : Result ℕ Failed) : Type 0 where
  pub within : IfOk result (λ n. n ≤ room)
  pub fails : IsErr result ↔ (failing_read old ≡ Some (source_tally old).reads)
  pub size : IfOk result (λ n. n ≡ min (min (next_size_of (source_sizes old)) room) (length (source_bytes old)))
  pub bytes : Takes (Some (source_bytes old)) (Some (source_bytes new)) result buf
  pub sizes : OnOk result (source_sizes new ≡ later_sizes (source_sizes old))
  pub same_sizes : OnErr result (source_sizes new ≡ source_sizes old)
  pub failing : failing_read new ≡ failing_read old
