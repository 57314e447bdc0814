-- What a reader has to believe.
pub use Rattle.lbk_rules.specs.Cells
pub use Rattle.lbk_ucd.specs.FileNames
pub mod CellsRefusal
pub mod Store
pub mod MemoryStore
pub mod FileStore
pub mod FileFault
pub mod Taking
pub mod Named
pub mod PropertyValues
pub mod TaskCells
pub mod SampleFiles
pub mod Ready
pub mod FaultText
-- What only carries proofs.
pub mod Places
