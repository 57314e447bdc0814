-- The cells of a text, for crates above: two sources that agree at each scalar value give a text the same cells.
use Rattle.std.proofs.Common.{◌≡◌, ℕ, true, List, [], ◌∷◌, map, refl}
use Rattle.std.proofs.Math.Utf8.{scalar, scalars}
use Rattle.std.proofs.lemmas.Bool.{and_parts}
use Rattle.std.proofs.lemmas.Str.{scalars-chars}
use Rattle.std.specs.Char.{IsScalar}
use Rattle.std.specs.Str.{IsUtf8, chars}
use Rattle.lbk_uax14.specs.declared.cells.Cell.{Cell}

-- of a list of scalar values
pub cells-same : (one other : ℕ → Cell) → ((code : ℕ) → IsScalar code → one code ≡ other code) → (codes : List ℕ) → scalars codes ≡ true → map one codes ≡ map other codes
cells-same one other same [] all = refl
cells-same one other same (code ∷ codes) all =
    let parts = and_parts (scalar code) (scalars codes) all in
    let here = same code parts.0 in
    let others = cells-same one other same codes parts.1 in
    cc

-- of a text
pub cells_of_text-same : (one other : ℕ → Cell) → ((code : ℕ) → IsScalar code → one code ≡ other code) → (text : List ℕ) → IsUtf8 text → map one (chars text) ≡ map other (chars text)
cells_of_text-same one other same text utf8 = cells-same one other same (chars text) (scalars-chars text utf8)
