-- What a reader has to believe.
pub mod Units
pub mod Positions
pub mod Encodings
-- What only carries proofs.
pub mod Front
pub mod Reached
pub mod Filling
-- Terms of other crates.
pub mod Terms
