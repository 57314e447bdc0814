-- A cell without the properties that no rule uses.
use Rattle.std.specs.Prelude.{ℕ, false, ◌&&◌, if◌then◌else◌, List, map}
use Rattle.lbk_uax14.specs.declared.classes.Quote.TheVariants.{Neither}
use Rattle.lbk_uax14.specs.declared.cells.Cell.{Cell}
use Rattle.lbk_uax14.specs.Classes.{◌or◌, none_of, CP, OP, QU, mark}

-- No rule uses the category of a cell, except by its class; nor its width, except of OP and CP (rule LB30); nor which
-- quotation mark it is, except of QU (rules LB15a and LB15b); nor whether a mark is an unassigned pictograph, because a
-- mark that heads a unit is read as a letter (rules LB10 and LB30b)
unfoldable pub normal : Cell → Cell
normal cell = record {
  class = cell.class;
  wide = (OP or CP) cell.class && cell.wide;
  pict_cn = none_of mark cell.class && cell.pict_cn;
  quote = if QU cell.class then cell.quote else Neither;
  letter = false;
}

-- the normal cells of some scalars
abbrev pub normals : (ℕ → Cell) → List ℕ → List Cell
normals cell taken = map normal (map cell taken)
