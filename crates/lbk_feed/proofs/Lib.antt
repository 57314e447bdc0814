-- Lemmas that several proofs share.
pub mod Ranges
pub mod Front
pub mod Scalars
pub mod Cut
pub mod Stops
pub mod Judged
pub mod Standing
pub mod Taking
pub mod Drawing
pub mod Outcomes
pub mod Written
pub mod Appended
pub mod Stepping
