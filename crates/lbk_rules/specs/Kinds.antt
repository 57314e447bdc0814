-- A number for each normal cell, its kind: its place among 42, and 42 more for an unassigned pictograph.
use Rattle.std.specs.Prelude.{◌≡◌, ℕ, ◌+◌, ◌*◌, ◌%◌, ◌<◌, ◌==◌, ◌&&◌, ◌||◌, Bool, false, List, if◌then◌else◌, length, map}
use Rattle.std.specs.List.{range_with_len}
use Rattle.std.specs.Prelude.{nat_le, slice_index, slice_index_or}
use Rattle.std.specs.Char.{IsScalar}
use Rattle.std.specs.Int.{from_bool}
use Rattle.lbk_uax14.specs.declared.cells.Cell.{Cell}
use Rattle.lbk_uax14.specs.declared.classes.Class.TheVariants.{Alphabetic}
use Rattle.lbk_uax14.specs.declared.classes.Quote.{Quote}
use Rattle.lbk_uax14.specs.declared.classes.Quote.TheVariants.{Neither, Initial, Final}
use Rattle.lbk_rules.specs.declared.kinds.TheConstants.{CLASSES}
use Rattle.lbk_uax14.specs.Classes.{none_of, CP, OP, mark, place}
use Rattle.lbk_uax14.specs.Sides.{opening, closing}

-- the place of a cell among 42: that of its class, or behind the classes one for each cell that the
-- rules tell apart from the others of its class
abbrev pub slot_of : Cell → ℕ
slot_of cell =
    if OP cell.class && cell.wide then 38
    else (if CP cell.class && cell.wide then 39
    else (if opening cell then 40
    else (if closing cell then 41
    else place cell.class)))

-- the kind that a number stands for: itself below 84, and of others what is left when 128 and then 84 are taken off as
-- often as can be
abbrev pub real_kind : ℕ → ℕ
real_kind number = number % 128 % 84

-- the kind of a cell
unfoldable pub kind_of : Cell → ℕ
kind_of cell = slot_of cell + 42 * from_bool (none_of mark cell.class && cell.pict_cn)

-- these are the kinds that the cells of the first codes have
abbrev pub AreKindsOf : (ℕ → Cell) → List ℕ → Type 0
AreKindsOf cell kinds = (code : ℕ) → IsScalar code → code < length kinds → slice_index kinds code ≡ kind_of (cell code)

-- whether a cell of this place opens or closes a quotation
abbrev pub quote_at : ℕ → Quote
quote_at slot = if slot == 40 then Initial else (if slot == 41 then Final else Neither)

-- the cell of a place among 42
abbrev pub slot_cell : ℕ → Bool → Cell
slot_cell slot pict_cn = record {
  class = slice_index_or CLASSES slot Alphabetic;
  wide = slot == 38 || slot == 39;
  pict_cn = pict_cn;
  quote = quote_at slot;
  letter = false;
}

-- the cell that has this kind
unfoldable pub kind_cell : ℕ → Cell
kind_cell kind = slot_cell (kind % 42) (nat_le 42 kind)

-- the kinds of the cells of all codes
unfoldable pub kinds_of_cells : (ℕ → Cell) → List ℕ
kinds_of_cells cell = map (λ code. kind_of (cell code)) (range_with_len 0 0x11_0000)
