-- Pages of cells: each holds the cells of 256 codes that follow one another.
use Rattle.std.specs.Prelude.{◌≡◌, ◌≢◌, ℕ, ◌+◌, ◌*◌, ◌/◌, ◌%◌, ◌^◌, ◌<◌, ◌≤◌, ◌==◌, List, [], bit_xor, fold, AllPairs}
use Rattle.std.specs.Prelude.{slice_index, slice_index_or, if◌then◌else◌}
use Rattle.std.specs.Int.{from_bool}
use Rattle.lbk_uax14.specs.declared.cells.Cell.{Cell}
use Rattle.lbk_uax14.specs.declared.classes.Quote.{Quote}
use Rattle.lbk_uax14.specs.declared.classes.Quote.TheVariants.{Neither, Initial, Final}
use Rattle.lbk_uax14.specs.Classes.{place}
use Rattle.lbk_uax14.specs.Units.{letter}
use Rattle.lbk_uax14.specs.declared.pages.kept.CellSum.{CellSum}

-- the page holds the cells of the 256 codes from `first` on
abbrev pub IsPageOf : (ℕ → Cell) → ℕ → List Cell → Type 0
IsPageOf cell_of first page =
    (k : ℕ) → k < 256 → slice_index_or page k letter ≡ cell_of (first + k)

-- the codes from first to last have this cell
abbrev pub AreSame : (ℕ → Cell) → ℕ → ℕ → Cell → Type 0
AreSame cell_of first last cell = (code : ℕ) → first ≤ code → code ≤ last → cell_of code ≡ cell

-- the page that the numbers give the k-th 256 codes
abbrev pub page_at : List ℕ → List (List Cell) → ℕ → List Cell
page_at numbers pages k = slice_index_or pages (slice_index numbers k) []

-- the cell of a code: at its place in the page of its 256 codes
abbrev pub cell_in : List ℕ → List (List Cell) → ℕ → Cell
cell_in numbers pages code = slice_index_or (page_at numbers pages (code / 256)) (code % 256) letter

-- no two pages are equal
abbrev pub AreDistinct : List (List Cell) → Type 0
AreDistinct pages = AllPairs (λ one other. one ≢ other) pages

-- the place of a value among the three
abbrev pub quote_place : Quote → ℕ
quote_place Neither = 0
quote_place Initial = 1
quote_place Final = 2

-- a number of its own for each cell
abbrev pub cell_number : Cell → ℕ
cell_number cell =
    from_bool cell.wide
    + 2 * from_bool cell.pict_cn
    + 4 * from_bool cell.letter
    + 8 * quote_place cell.quote
    + 32 * place cell.class

-- a digest with one number more
abbrev pub mixed : ℕ → ℕ → ℕ
mixed sum number = ((bit_xor sum (sum / 2 ^ 32) * 0x5851_f42d_4c95_7f2d) % 2 ^ 64 + number) % 2 ^ 64

-- with the run of equal cells that is told so far
abbrev pub with_run : CellSum → ℕ
with_run d = mixed d.sum ((d.number * 1024 % 2 ^ 64 + d.count) % 2 ^ 64)

-- after one more cell
abbrev pub digest_with : CellSum → Cell → CellSum
digest_with d cell =
    if cell_number cell == d.number then record { sum = d.sum; number = d.number; count = (d.count + 1) % 2 ^ 64 }
    else record { sum = with_run d; number = cell_number cell; count = 1 }

abbrev pub no_cells : CellSum
no_cells = record { sum = 0; number = 0; count = 0 }

-- the digest of a page: pages that are equal have the same
unfoldable pub digest_of : List Cell → ℕ
digest_of page = with_run (fold digest_with no_cells page)
