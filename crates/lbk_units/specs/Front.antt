-- What some units begin with.
pub use Rattle.lbk_bytes.specs.Front.{IsFront}
