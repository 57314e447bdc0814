-- What some units begin with.
use Rattle.std.specs.Prelude.{◌≡◌, ◌<◌, ◌≤◌, List, ◌∷◌, length, drop}
use Rattle.bstr.specs.Utf8.{Decoded, or_replacement}
use Rattle.lbk_bytes.specs.declared.unit.UnitScalar.{UnitScalar}

-- this scalar, of the first piece of these units
pub record IsFront {A : Type 0} (pieces_of : List A → List Decoded) (units : List A) (found : UnitScalar) : Type 0 where
  pub piece : Decoded
  pub begins : pieces_of units ≡ piece ∷ pieces_of (drop found.size units)
  pub reads : or_replacement piece.char ≡ found.scalar
  pub sized : piece.size ≡ found.size
  pub some : 0 < found.size
  pub few : found.size ≤ 4
  pub within : found.size ≤ length units
