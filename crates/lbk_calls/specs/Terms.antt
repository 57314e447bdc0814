-- Terms of other crates, for the contracts here and in `lbk_c`.
pub use Rattle.bstr.specs.Utf8.{Decoded, pieces}
pub use Rattle.lbk_values.specs.declared.profile.Profile.{Profile}
pub use Rattle.lbk_values.specs.declared.profile.Profile.TheVariants.{First}
pub use Rattle.lbk_rules.specs.Breaks.{breaks}
pub use Rattle.lbk_rules.specs.FlatTable.{IsFlatBy, IsFlatOf, IsWhole, digest_with}
pub use Rattle.lbk_rules.specs.Joins.{moved}
pub use Rattle.lbk_rules.specs.Rows.{IsPlace}
pub use Rattle.lbk_rules.specs.declared.Break.{Break}
pub use Rattle.lbk_rules.specs.declared.Cell.{Cell}
pub use Rattle.lbk_rules.specs.declared.flat_table.FlatTable.{FlatTable}
pub use Rattle.lbk_bytes.specs.Bytes.{AtEnd, breaks_of_bytes, end_in}
pub use Rattle.lbk_bytes.specs.Marks.{is_marked}
pub use Rattle.lbk_bytes.specs.Order.{AreInOrderBy}
pub use Rattle.lbk_bytes.specs.Reached.{IsInOrderBy, position_end_in}
pub use Rattle.lbk_bytes.specs.Shown.{given_in, shown}
pub use Rattle.lbk_units.specs.Encodings.{AreThoseOfScalars, encode_utf16_all, placed_in}
pub use Rattle.lbk_units.specs.Filling.{IsInText}
pub use Rattle.lbk_units.specs.Positions.{positions_of_bytes, positions_of_utf16, positions_of_utf32}
pub use Rattle.lbk_units.specs.Reached.{UnitsReachedBy, on_from}
pub use Rattle.lbk_units.specs.Units.{breaks_of_utf16, breaks_of_utf32, pieces_of_utf16, pieces_of_utf32}
