-- The cells that four property files give.
use Rattle.std.specs.Prelude.{◌≡◌, ℕ}
use Rattle.std.specs.Char.{IsScalar}
use Rattle.lbk_ucd.specs.declared.tables.Files.{Files}
use Rattle.lbk_ucd.specs.File.{property_of}
use Rattle.lbk_ucd.specs.Names.{line_break_format, east_asian_format, category_format, emoji_format}
use Rattle.lbk_uax14.specs.declared.cells.Cell.{Cell}
use Rattle.lbk_uax14.specs.Resolve.{cell_of_properties}

-- the cell of a scalar value, by the properties that the four files give its code
abbrev pub cell_of_files : Files → ℕ → Cell
cell_of_files files code = cell_of_properties
    (property_of line_break_format files.line_break.now code)
    (property_of east_asian_format files.east_asian.now code)
    (property_of category_format files.category.now code)
    (property_of emoji_format files.emoji.now code)

-- a function on codes gives each scalar value the cell that the files give it
abbrev pub AreCellsOf : Files → (ℕ → Cell) → Type 0
AreCellsOf files cell = (code : ℕ) → IsScalar code → cell code ≡ cell_of_files files code
