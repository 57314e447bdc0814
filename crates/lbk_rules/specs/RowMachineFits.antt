-- What a row machine knows of the scalars that it has taken.
use Rattle.std.specs.Prelude.{◌≡◌, ℕ, List, reverse}
use Rattle.lbk_uax14.specs.declared.cells.Cell.{Cell}
use Rattle.lbk_rules.specs.declared.row_machine.RowMachine.{RowMachine}
use Rattle.lbk_values.specs.declared.profile.Profile.{Profile}
use Rattle.lbk_uax14.specs.Facts.{facts}
use Rattle.lbk_rules.specs.Rows.{left_at}
pub use Rattle.lbk_uax14.specs.Normal.{normals}

-- it sees the scalars by these cells and in this profile, and its row knows of those taken what the rules ask
pub record RowMachineFits {C : Type 0} (cell_of : C → ℕ → Cell) (machine : RowMachine C) (profile : Profile) (cell : ℕ
    → Cell) (taken : List ℕ) : Type 0 where
  pub cell_same : cell ≡ cell_of machine.cells.now
  pub profile_same : machine.row.profile ≡ profile
  pub row_same : facts (reverse (normals cell taken)) ≡ left_at machine.row.place
