-- What a table of near kinds shows.
use Rattle.std.specs.Prelude.{ℕ, List}
use Rattle.lbk_rules.specs.declared.Cell.{Cell}
use Rattle.lbk_rules.specs.declared.neighbours.Neighbours.{Neighbours}
use Rattle.lbk_rules.specs.CellTable.{kinds_in as kinds_of_table, pairs_in as pairs_of_table}
use Rattle.lbk_passage.specs.declared.near_kinds.NearKinds.{NearKinds}

-- the kinds of all codes
abbrev pub kinds_in : {C : Type 0} {bound : _} → (C → ℕ → Cell) → NearKinds C bound → List ℕ
kinds_in cell_of near = kinds_of_table cell_of near.table

-- what it has of bytes side by side
abbrev pub pairs_in : {C : Type 0} {bound : _} → NearKinds C bound → Neighbours
pairs_in near = pairs_of_table near.table
