-- The cells of Unicode 15.0.0, by runs of codes that have one cell.
use Rattle.std.specs.Prelude.{ℕ, ◌+◌, Bool, false, List, [], ◌∷◌, slice_index_or}
use Rattle.ucd_table.specs.Steps.{Step, step_value}
use Rattle.lbk_uax14.specs.declared.cells.Cell.{Cell}
use Rattle.lbk_uax14.specs.declared.classes.Class.TheVariants.{Alphabetic}
use Rattle.lbk_uax14.specs.declared.classes.Quote.TheVariants.{Neither}
use Rattle.lbk_rules.specs.declared.unicode_runs.TheConstants.{UNICODE_CELLS, UNICODE_RUNS}
use Rattle.lbk_rules.specs.Kinds.{kind_of}

-- where each run ends, and the number of its cell
unfoldable pub ends_from : ℕ → List (ℕ × ℕ) → List (Step ℕ)
ends_from first [] = []
ends_from first (run ∷ runs) = (first + run.0, run.1) ∷ ends_from (first + run.0) runs

-- the number of a code's cell
unfoldable pub number_of : ℕ → ℕ
number_of code = step_value 0 (ends_from 0 UNICODE_RUNS) code

-- the cell of a number
abbrev pub cell_numbered : ℕ → Cell
cell_numbered number = slice_index_or UNICODE_CELLS number
    (record { class = Alphabetic; wide = false; pict_cn = false; quote = Neither; letter = false })

-- the cell of a code
unfoldable pub unicode_cell : ℕ → Cell
unicode_cell code = cell_numbered (number_of code)
