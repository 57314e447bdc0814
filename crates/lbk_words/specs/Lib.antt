-- What a reader has to believe.
pub mod Letters
pub mod Words
pub mod Places
pub mod Calls
-- What only carries proofs.
pub mod Contexts
pub mod Kinds
pub mod Near
pub mod RowList
pub mod Rows
pub mod Filling
pub mod Blocks
pub mod Ends
