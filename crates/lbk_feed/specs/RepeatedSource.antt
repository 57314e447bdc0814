-- What a `RepeatedSource` shows.
use Rattle.std.specs.Prelude.{ℕ, List, replicate}
use Rattle.lbk_feed.specs.declared.tally.Tally.{Tally}
use Rattle.lbk_feed.specs.declared.devices.repeated_source.RepeatedSource.{RepeatedSource}

-- the unread bytes of the source
unfoldable pub repeated_bytes : RepeatedSource → List ℕ
repeated_bytes s = replicate s.left s.byte

-- its counts
unfoldable pub repeated_tally : RepeatedSource → Tally
repeated_tally s = s.tally
