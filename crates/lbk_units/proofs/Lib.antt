pub mod UnitLemmas
pub mod ReachedLemmas
pub mod RunLemmas
pub mod EncodingLemmas
pub mod PositionLemmas
