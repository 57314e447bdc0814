-- Units, the runs of cells that rules LB9 and LB10 make into one (UAX #14, section 6.1).
use Rattle.std.specs.Prelude.{Bool, true, false, ◌||◌, if◌then◌else◌, List, [], ◌∷◌, Option, Some, None}
use Rattle.lbk_uax14.specs.declared.classes.Class.TheVariants.{Alphabetic, Space}
use Rattle.lbk_uax14.specs.declared.classes.Quote.TheVariants.{Neither}
use Rattle.lbk_uax14.specs.declared.cells.Cell.{Cell}
use Rattle.lbk_uax14.specs.Classes.{hard, mark, none_of}
use Rattle.lbk_uax14.specs.Sides.{Side}

-- a letter with no property of its own
abbrev pub letter : Cell
letter = record { class = Alphabetic; wide = false; pict_cn = false; quote = Neither; letter = false }

-- the unit that a head heads: a mark that is a head is read as a letter
abbrev pub unit : Cell → Cell
unit cell = if mark cell.class then letter else cell

-- the units of some cells; fresh: no cell is before them, or one of a hard class. Heads are cells that are no marks,
-- and fresh marks
abbrev pub units_after : Bool → List Cell → List Cell
units_after fresh [] = []
units_after fresh (cell ∷ cells) =
    if fresh || none_of mark cell.class
    then unit cell ∷ units_after (hard cell.class) cells
    else units_after (hard cell.class) cells

-- the units of a list of cells
abbrev pub units : List Cell → List Cell
units cells = units_after true cells

-- the first of a list
abbrev pub first : List Cell → Option Cell
first [] = None
first (cell ∷ _) = Some cell

-- the unit after the one that the first cell heads, if there is one
abbrev pub next_unit : List Cell → Option Cell
next_unit [] = None
next_unit (cell ∷ cells) = first (units_after (hard cell.class) cells)

-- a space, for the nearest of an empty side
abbrev pub space : Cell
space = record { class = Space; wide = false; pict_cn = false; quote = Neither; letter = false }

-- the nearest cell or unit
abbrev pub nearest : Side → Cell
nearest [] = space
nearest (cell ∷ _) = cell

-- a cell after these, read outwards, heads a unit
abbrev pub heads : Side → Cell → Bool
heads side cell = hard (nearest side).class || none_of mark cell.class
