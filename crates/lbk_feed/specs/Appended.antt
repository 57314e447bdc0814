-- What a list holds of bytes that were to be appended, where memory could not grow for all of them.
use Rattle.std.specs.Prelude.{◌≡◌, ℕ, List, ◌++◌, take}

-- a prefix of these bytes was appended to the bytes before, of which none is lost
pub record HasPut (old new bytes : List ℕ) : Type 0 where
  pub count : ℕ
  pub is : new ≡ old ++ take count bytes
