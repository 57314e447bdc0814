-- What a reader has to believe.
pub mod PropertyLine
pub mod Rows
pub mod File
pub mod Names
pub mod Files
pub mod Samples
pub mod Tables
pub mod Grammar
pub mod FileNames
pub mod Digests
pub mod Causes
pub mod Texts
pub mod Claims
pub mod Published
pub mod ClaimTexts
-- What only carries proofs.
pub mod Ranges
pub mod Reading
pub mod Shown
