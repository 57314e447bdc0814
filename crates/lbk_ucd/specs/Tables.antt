-- The properties of each code point in the tables.
use Rattle.std.specs.Prelude.{ℕ, Bool, unwrap_or}
use Rattle.lbk_ucd.specs.declared.tables.Tables.{Tables}
use Rattle.lbk_ucd.specs.declared.ranges.Assigned.{Assigned}
use Rattle.lbk_values.specs.declared.values.LineBreak.{LineBreak}
use Rattle.lbk_values.specs.declared.values.EastAsian.{EastAsian}
use Rattle.lbk_values.specs.declared.values.Category.{Category}
use Rattle.lbk_ucd.specs.Rows.{first_value}

-- the value of a code point by the rows of one file
abbrev pub value_of : {V : Type 0} → Assigned V → ℕ → V
value_of assigned code = unwrap_or (first_value code assigned.rows.items) assigned.unlisted

-- Line_Break
unfoldable pub line_break_of : Tables → ℕ → LineBreak
line_break_of tables code = value_of tables.line_break code

-- East_Asian_Width
unfoldable pub east_asian_of : Tables → ℕ → EastAsian
east_asian_of tables code = value_of tables.east_asian code

-- General_Category
unfoldable pub category_of : Tables → ℕ → Category
category_of tables code = value_of tables.category code

-- Extended_Pictographic
unfoldable pub is_pictographic_of : Tables → ℕ → Bool
is_pictographic_of tables code = value_of tables.pictographic code
