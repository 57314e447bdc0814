-- What a reader has to check.
pub mod Calls
pub mod Cuts
pub mod Chunks
pub mod Laws
-- What only proofs use.
pub mod Blocks
pub mod Coming
