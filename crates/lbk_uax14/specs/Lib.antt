-- What a reader has to believe.
pub mod Classes
pub mod Sides
pub mod Units
pub mod Rules
pub mod Verdict
pub mod Marks
pub mod Breaks
pub mod Resolve
pub mod Labels
pub mod Held
pub mod Annex
pub mod Ends
pub mod Joins
pub mod Once
pub mod Normal
-- What only carries proofs.
pub mod Answers
pub mod Asked
pub mod Chain
pub mod Codes
pub mod Facts
pub mod Fits
pub mod LateFits
pub mod PageCells
pub mod Pages
