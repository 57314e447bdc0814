-- What only carries proofs.
pub mod Stands
pub mod Widths
