-- What a machine knows about the cells that it has taken.
use Rattle.std.specs.Prelude.{◌≡◌, List, reverse}
use Rattle.lbk_uax14.specs.declared.cells.Cell.{Cell}
use Rattle.lbk_uax14.specs.declared.machine.Machine.{Machine}
use Rattle.lbk_uax14.specs.Facts.{facts}

-- each fact of the machine is that of the whole list: whether it is empty, what the rules ask of the class of its last
-- cell, whether it ends with a zero width space and spaces; about its units, what the rules ask of the class of the last
-- one, and of the class before the spaces at the end, whether a Hebrew letter is before the last, whether the run of
-- indicators at the end is odd, and whether an opening quotation mark stays open
unfoldable pub Fits : Machine → List Cell → Type 0
Fits machine cells = facts (reverse cells) ≡ machine.left
