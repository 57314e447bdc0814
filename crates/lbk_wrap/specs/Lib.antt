-- What a reader has to believe.
pub mod Layouts
pub mod Columns
pub mod Cuttings
pub mod Lines
pub mod Orders
pub mod Filled
pub mod Laws
-- What only carries proofs.
pub mod Steps
