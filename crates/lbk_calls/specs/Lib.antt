-- What a reader has to believe.
pub mod Calls
pub mod Labels
pub mod Padding
pub mod Refused
pub mod RuleTexts
pub mod State
pub mod Packed
pub mod Packing
pub mod Refusals
pub mod Runs
-- What only carries proofs.
pub mod Coming
-- Terms of other crates.
pub mod Terms
