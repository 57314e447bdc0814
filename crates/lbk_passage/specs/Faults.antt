-- The faults of a feed among those of a segmenter.
use Rattle.lbk_feed.specs.declared.faults.FeedFault.{FeedFault}
use Rattle.lbk_feed.specs.declared.faults.FeedFault.TheVariants as feed
use Rattle.lbk_passage.specs.declared.faults.PassageFault.{PassageFault}
use Rattle.lbk_passage.specs.declared.faults.PassageFault.TheVariants.{Read, NotUtf8, TextTooLong, Spent}

-- a fault of the feed, as a segmenter answers it
abbrev pub passage_fault : FeedFault → PassageFault
passage_fault feed.Read = Read
passage_fault (feed.NotUtf8 at) = NotUtf8 at
passage_fault feed.TextTooLong = TextTooLong
passage_fault feed.Spent = Spent
