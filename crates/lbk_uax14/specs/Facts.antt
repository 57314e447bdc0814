-- The few facts about the left side that the rules need.
use Rattle.std.specs.Prelude.{◌≡◌, Bool, false, ◌&&◌, if◌then◌else◌, [], ◌∷◌}
use Rattle.lbk_values.specs.declared.profile.Profile.{Profile}
use Rattle.lbk_values.specs.declared.profile.Profile.TheVariants.{First, Second}
use Rattle.lbk_uax14.specs.declared.cells.Cell.{Cell}
use Rattle.lbk_uax14.specs.declared.classes.Class.{Class}
use Rattle.lbk_uax14.specs.declared.facts.Left.{Left}
use Rattle.lbk_uax14.specs.declared.facts.Before.{Before}
use Rattle.lbk_uax14.specs.Asked.{asked_of_cell, asked_before_spaces, asked_of_unit}
use Rattle.lbk_uax14.specs.Classes.{◌or◌, B2, BA, CL, CP, HL, HY, OP, QU, ZW}
use Rattle.lbk_uax14.specs.Sides.{Side, is_nothing, at, before_spaces, behind, past_spaces, at_odd_run}
use Rattle.lbk_uax14.specs.Sides.{opens_quotation, leaves_closed}
use Rattle.lbk_uax14.specs.Units.{unit}
pub use Rattle.lbk_uax14.specs.Units.{space, nearest, heads}

-- the units of the cells on the left, read outwards
abbrev pub units_before : Side → Side
units_before [] = []
units_before (cell ∷ side) =
    if heads side cell
    then unit cell ∷ units_before side
    else units_before side

-- the facts about units read outwards
abbrev pub facts_of_units : Side → Before
facts_of_units side = record {
  last = asked_of_unit (nearest side);
  before_spaces = asked_before_spaces (before_spaces side);
  hebrew_hyphen = at (HY or BA) side && behind HL side;
  odd_indicators = at_odd_run side;
  opens_quotation = opens_quotation side;
}

-- the facts about the cells on the left, read outwards
unfoldable pub facts : Side → Left
facts side = record {
  empty = is_nothing side;
  last = asked_of_cell (nearest side).class;
  past_zero_width = past_spaces ZW side;
  units = facts_of_units (units_before side);
}

-- a cell of this class without flags
abbrev pub class_cell : Class → Cell
class_cell class = record space { class = class }

-- the facts about units whose nearest one is known
pub record Sees (before : Before) (side : Side) : Type 0 where
  pub opening : past_spaces OP (before.last ∷ side) ≡ OP before.before_spaces
  pub quoting : past_spaces QU (before.last ∷ side) ≡ QU before.before_spaces
  pub closing : past_spaces (CL or CP) (before.last ∷ side) ≡ (CL or CP) before.before_spaces
  pub dashes : past_spaces B2 (before.last ∷ side) ≡ B2 before.before_spaces
  pub hebrew : (at (HY or BA) (before.last ∷ side) && behind HL (before.last ∷ side)) ≡ before.hebrew_hyphen
  pub indicators : at_odd_run (before.last ∷ side) ≡ before.odd_indicators
  pub quotation : opens_quotation (before.last ∷ side) ≡ before.opens_quotation

-- what follows a closing quotation mark, if the profile asks for it
abbrev pub closes_in : Profile → Side → Bool
closes_in First side = false
closes_in Second side = leaves_closed side
