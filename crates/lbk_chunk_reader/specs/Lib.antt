-- What a reader has to check.
pub mod Numbered
pub mod Cuts
pub mod Reader
pub mod Shown
pub mod Settled
pub mod Held
pub mod Window
pub mod Agreement
pub mod PassageWords
-- What only proofs use.
pub mod Between
pub mod Choosing
pub mod Pieces
pub mod Standing
pub mod Taking
-- Terms of other crates.
pub mod Terms
