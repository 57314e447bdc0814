-- What a reader has to believe.
pub mod Streams
pub mod Cuts
-- What only carries proofs.
pub mod Stands
pub mod Looking
pub mod Taking
