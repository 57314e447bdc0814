-- What a reader has to believe.
pub mod Text
pub mod Devices
pub mod View
pub mod Runs
pub mod Writes
pub mod Appended
pub mod Tally
pub mod Device
pub mod MemorySource
pub mod MemorySink
pub mod RepeatedSource
pub mod Within
-- What only carries proofs.
pub mod Block
pub mod Judge
pub mod Intake
