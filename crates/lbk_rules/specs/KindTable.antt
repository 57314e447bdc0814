-- What a table of kinds shows: a kind for each code.
use Rattle.std.specs.Prelude.{ℕ, slice_index}
use Rattle.lbk_rules.specs.declared.kind_table.KindTable.{KindTable}

-- the kind of a code in this table
unfoldable pub kind_at : KindTable → ℕ → ℕ
kind_at table code = slice_index table.kinds.items code
