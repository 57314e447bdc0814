-- The cells that tables give.
use Rattle.std.specs.Prelude.{ℕ}
use Rattle.lbk_ucd.specs.declared.tables.Tables.{Tables}
use Rattle.lbk_ucd.specs.Tables.{line_break_of, east_asian_of, category_of, is_pictographic_of}
use Rattle.lbk_uax14.specs.declared.cells.Cell.{Cell}
use Rattle.lbk_uax14.specs.Resolve.{cell_of_properties}

-- the cell that tables give a scalar value
unfoldable pub cell_of_tables : Tables → ℕ → Cell
cell_of_tables tables code =
    cell_of_properties (line_break_of tables code) (east_asian_of tables code) (category_of tables code)
    (is_pictographic_of tables code)
