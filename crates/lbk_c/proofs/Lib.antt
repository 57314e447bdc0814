pub mod TableLemmas
pub mod MarkLemmas
pub mod AfterLemmas
pub mod SafeLemmas
pub mod SegmentLemmas
pub mod DigestLemmas
pub mod EmptyLemmas
pub mod FeedLemmas
