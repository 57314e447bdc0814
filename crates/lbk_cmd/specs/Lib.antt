-- What a reader has to believe.
pub mod Show
pub mod Mark
pub mod Texts
pub mod Run
pub mod Engines
pub mod Ending
pub mod Devices
pub mod Operands
pub mod MemoryTexts
pub mod Ranges
pub mod Chunk
pub mod Titles
pub mod Acts
pub mod Headline
pub mod Broken
pub mod Owned
pub mod Parts
pub mod Message
-- What only carries proofs.
pub mod Deciding
pub mod Gathering
pub mod Signing
pub mod ReadBack
pub mod Waiting
pub mod Objects
pub mod Chunking
pub mod Writing
