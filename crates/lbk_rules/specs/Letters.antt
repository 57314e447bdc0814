-- First bytes of scalars of two that stand for all scalars that they begin.
use Rattle.std.specs.Prelude.{◌≡◌, ℕ, ◌+◌, ◌-◌, ◌*◌, ◌<◌, ◌≤◌, List, slice_index_or}
use Rattle.lbk_masks.specs.declared.ByteSets.{ByteSets}
use Rattle.lbk_masks.specs.Sets.{right_in}

-- the scalar of this first byte and the second `128 + more` has the kind of the code that is the byte's number, the
-- rows of both bytes are the same, and the second stands out after no byte
pub record StandsFor (kinds rows : List ℕ) (sets : ByteSets) (byte more : ℕ) : Type 0 where
  pub alike : slice_index_or kinds ((byte - 192) * 64 + more) 0 ≡ slice_index_or kinds byte 0
  pub leads : slice_index_or rows (128 + more) 0 ≡ slice_index_or rows byte 0
  pub quiet : right_in sets (128 + more) ≡ 0

-- so it is of all scalars of two bytes that the byte begins (Unicode Standard, table 3-7)
pub record StandsForAll (kinds rows : List ℕ) (sets : ByteSets) (byte : ℕ) : Type 0 where
  pub begins : (0xC2 ≤ byte) × (byte < 0xE0)
  pub each : (more : ℕ) → more < 64 → StandsFor kinds rows sets byte more
