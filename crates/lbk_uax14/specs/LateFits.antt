-- What a late machine knows about the cells that it has taken.
use Rattle.std.specs.Prelude.{◌≡◌, ℕ, if◌then◌else◌, List, [], ◌∷◌, length, reverse, Option, Some, None, option_map}
use Rattle.lbk_uax14.specs.declared.cells.Cell.{Cell}
use Rattle.lbk_uax14.specs.declared.late_machine.Held.{Held}
use Rattle.lbk_uax14.specs.declared.late_machine.LateMachine.{LateMachine}
use Rattle.lbk_values.specs.declared.profile.Profile.{Profile}
use Rattle.lbk_uax14.specs.Sides.{Side}
use Rattle.lbk_uax14.specs.Chain.{from_cells}
use Rattle.lbk_uax14.specs.Facts.{facts, heads}
use Rattle.lbk_uax14.specs.Held.{is_15b}

-- the held position, with its left side and the quotation mark after it
unfoldable pub waiting : Profile → Side → Option Held
waiting profile [] = None
waiting profile (cell ∷ side) =
    if is_15b (from_cells profile side (cell ∷ [])).rule
    then Some (record { position = length side; left = facts side; quotation = cell })
    else (if heads side cell then None else waiting profile side)

-- the position that a machine holds open, if there is one
unfoldable pub held_position : LateMachine → Option ℕ
held_position machine = option_map (λ held. held.position) machine.held

-- how many steps a machine has made
unfoldable pub steps_of : LateMachine → ℕ
steps_of machine = machine.steps

-- each fact of the machine is that of the whole list, and it holds the open position
pub record LateFits (machine : LateMachine) (profile : Profile) (cells : List Cell) : Type 0 where
  pub profile_same : machine.profile ≡ profile
  pub left_same : facts (reverse cells) ≡ machine.left
  pub steps_same : steps_of machine ≡ length cells
  pub held_same : machine.held ≡ waiting profile (reverse cells)
