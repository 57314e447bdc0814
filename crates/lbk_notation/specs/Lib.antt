-- What a reader has to believe.
pub mod TestLine
pub mod Grammar
pub mod Place
pub mod Written
pub mod Marked
pub mod Shown
pub mod Fault
pub mod Reading
pub mod Outcome
pub mod Stream
pub mod Findings
pub mod ReplayText
pub mod Replay
-- What only carries proofs.
pub mod Run
pub mod Content
pub mod Put
pub mod Met
pub mod Counted
pub mod ReplayState
