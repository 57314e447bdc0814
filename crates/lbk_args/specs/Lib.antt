-- What a reader has to believe.
pub mod Command
pub mod Sign
pub mod Numbers
pub mod Task
pub mod Accepted
pub mod PlainWords
pub mod Refusal
pub mod OneLine
-- What only carries proofs.
pub mod Made
pub mod OwnNames
