-- A table over the cells of four files.
use Rattle.std.proofs.Common.{◌≡◌, ℕ, ap, ◌∙◌}
use Rattle.std.specs.Char.{IsScalar}
use Rattle.lbk_ucd.specs.declared.tables.Files.{Files}
use Rattle.lbk_ucd.specs.declared.tables.Tables.{Tables}
use Rattle.lbk_ucd.specs.File.{property_of}
use Rattle.lbk_ucd.specs.Names.{line_break_format, east_asian_format, category_format, emoji_format}
use Rattle.lbk_ucd.specs.Tables.{line_break_of, east_asian_of, category_of, is_pictographic_of}
use Rattle.lbk_rules.specs.declared.Cell.{Cell}
use Rattle.lbk_rules.specs.declared.flat_table.FlatTable.{FlatTable}
use Rattle.lbk_rules.specs.Cells.{cell_of_files}
use Rattle.lbk_rules.specs.FlatTable.{IsFlatOf}
use Rattle.lbk_rules.specs.Normal.{normal}
use Rattle.lbk_rules.specs.Resolve.{cell_of_properties}
use Rattle.lbk_rules.specs.CellOfTables.{cell_of_tables}

-- a table over some cells is one over the same cells
pub flat-same : (cell other : ℕ → Cell) (table : FlatTable) → ((code : ℕ) → IsScalar code → cell code ≡ other code) → IsFlatOf table cell → IsFlatOf table other
flat-same cell other table same flat = record {
  kinds = λ code scalar. flat.kinds code scalar ∙ ap normal (same code scalar);
  told = flat.told;
}

-- tables that give the properties of some files give their cells
pub cells-of-files : (tables : Tables) (files : Files) (code : ℕ)
    → line_break_of tables code ≡ property_of line_break_format files.line_break.now code
    → east_asian_of tables code ≡ property_of east_asian_format files.east_asian.now code
    → category_of tables code ≡ property_of category_format files.category.now code
    → is_pictographic_of tables code ≡ property_of emoji_format files.emoji.now code
    → cell_of_tables tables code ≡ cell_of_files files code
unfolding cell_of_tables
cells-of-files tables files code line_break east_asian category emoji =
    ap (λ v. cell_of_properties v (east_asian_of tables code) (category_of tables code) (is_pictographic_of tables code)) line_break
    ∙ ap (λ v. cell_of_properties (property_of line_break_format files.line_break.now code) v (category_of tables code) (is_pictographic_of tables code)) east_asian
    ∙ ap (λ v. cell_of_properties (property_of line_break_format files.line_break.now code) (property_of east_asian_format files.east_asian.now code) v (is_pictographic_of tables code)) category
    ∙ ap (λ v. cell_of_properties (property_of line_break_format files.line_break.now code) (property_of east_asian_format files.east_asian.now code) (property_of category_format files.category.now code) v) emoji
