use Rattle.std.proofs.Common.{rules}
use Rattle.lbk_c.proofs.FeedLemmas.{feeds-next}
use Rattle.lbk_c.proofs.streaming.lbk_feed_utf16.Goals as goal

pub returns : goal.returns
returns c = record {
  over = search rules;
  start = c.feed.ensures.start;
  part = c.feed.ensures.part;
  next = feeds-next _ _ _ _ _ _ _ _ _ _ _ _ c.feed.ensures.front c.feed.ensures.rest c.feed.ensures.settled c.feed.ensures.seen;
  cut = c.feed.ensures.cut;
  end = c.feed.ensures.end;
}
