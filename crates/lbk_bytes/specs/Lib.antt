-- What a reader has to believe.
pub mod Bytes
pub mod Profiles
pub mod Shown
pub mod Order
pub mod Open
pub mod Pieces
pub mod Marks
-- What only carries proofs.
pub mod Front
pub mod Decided
pub mod Reached
pub mod Steps
pub mod Blocks
pub mod Widths
pub mod Marking
pub mod Roomy
-- Terms of other crates.
pub mod Terms
