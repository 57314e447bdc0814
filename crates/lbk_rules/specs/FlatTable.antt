-- A table as plain numbers: the kinds of all codes, and what the steps tell of bytes side by side.
use Rattle.std.specs.Prelude.{◌≡◌, ℕ, ◌<◌, true, false, List, ◌∷◌, fold, reverse, slice_index}
use Rattle.std.specs.Char.{IsScalar}
use Rattle.lbk_uax14.specs.declared.cells.Cell.{Cell}
use Rattle.lbk_uax14.specs.declared.facts.Left.{Left}
use Rattle.lbk_rules.specs.declared.flat_table.FlatTable.{FlatTable}
use Rattle.lbk_rules.specs.declared.flat_table.TheConstants.{LAYOUT}
use Rattle.lbk_rules.specs.declared.kinds.TheConstants.{KINDS}
use Rattle.lbk_rules.specs.declared.neighbours.Neighbours.{Neighbours}
use Rattle.lbk_rules.specs.declared.steps.Step.{Step}
use Rattle.lbk_rules.specs.declared.steps.TheConstants.{HELD}
use Rattle.lbk_values.specs.declared.profile.Profile.{Profile}
use Rattle.lbk_values.specs.declared.profile.Profile.TheVariants.{First, Second}
use Rattle.lbk_uax14.specs.Chain.{from_cells}
use Rattle.lbk_uax14.specs.Classes.{hard}
use Rattle.lbk_uax14.specs.Facts.{facts}
use Rattle.lbk_uax14.specs.Normal.{normal, normals}
use Rattle.lbk_uax14.specs.Sides.{Side, leaves_closed}
use Rattle.lbk_uax14.specs.Units.{units_after}
use Rattle.lbk_rules.specs.Kinds.{kind_cell, kind_of, real_kind}
pub use Rattle.lbk_rules.specs.Neighbours.{digest_with}
use Rattle.lbk_rules.specs.Neighbours.{AreTold, digest_of_neighbours}
use Rattle.lbk_rules.specs.Rows.{IsPlace, IsShown, left_at, steps_in, verdict_shown}

-- The steps from what is known, by a cell, in the first profile and in the other: the place of the row that knows of
-- the cell too, and the number of the verdict before the cell. In the other profile the verdict is that where what
-- follows leaves a closing quotation mark closed. By any rule but 15b it is so whatever follows; by rule 15b it is that
-- of the first profile where what follows leaves the mark open
pub record IsFlatStep (left : Left) (cell : Cell) (one other : Step) : Type 0 where
  pub begins : IsPlace one.next
  pub same : other.next ≡ one.next
  pub shows : IsShown one.shown × IsShown other.shown
  pub leads : (side : Side) → facts side ≡ left → facts (cell ∷ side) ≡ left_at one.next
  pub decides : (side more : Side) → facts side ≡ left → verdict_shown one.shown ≡ from_cells First side (cell ∷ more)
  pub closes : (side more : Side) → facts side ≡ left → leaves_closed (units_after (hard cell.class) more) ≡ true
      → verdict_shown other.shown ≡ from_cells Second side (cell ∷ more)
  pub settled : ¬ (other.shown ≡ HELD)
      → (side more : Side) → facts side ≡ left → verdict_shown other.shown ≡ from_cells Second side (cell ∷ more)
  pub opens : other.shown ≡ HELD
      → (side more : Side) → facts side ≡ left → leaves_closed (units_after (hard cell.class) more) ≡ false
      → verdict_shown one.shown ≡ from_cells Second side (cell ∷ more)

-- these kinds are those of the cells that `cell` gives
abbrev pub AreFlatKinds : List ℕ → (ℕ → Cell) → Type 0
AreFlatKinds kinds cell = (code : ℕ) → IsScalar code → kind_cell (real_kind (slice_index kinds code))
    ≡ normal (cell code)

-- each number is that of a kind
abbrev pub AreKinds : List ℕ → Type 0
AreKinds kinds = (code : ℕ) → slice_index kinds code < KINDS

-- each kind is that of the cell of its code, also where the code is no scalar value
abbrev pub AreKindsAlone : FlatTable → (ℕ → Cell) → Type 0
AreKindsAlone table cell = (code : ℕ) → code < 0x11_0000 → slice_index table.kinds code ≡ kind_of (cell code)

-- these numbers are kinds of the cells that `cell` gives, and tell what the steps do with bytes side by side
pub record IsFlatBy (of_codes : List ℕ) (of_bytes : Neighbours) (cell : ℕ → Cell) : Type 0 where
  pub kinds : AreFlatKinds of_codes cell
  pub told : (profile : Profile) → AreTold (steps_in profile) of_codes of_bytes

-- the table is over the cells that `cell` gives
abbrev pub IsFlatOf : FlatTable → (ℕ → Cell) → Type 0
IsFlatOf table = IsFlatBy table.kinds table.pairs

-- the row at this place knows of the scalars taken what the rules ask
abbrev pub KnowsTaken : (ℕ → Cell) → ℕ → List ℕ → Type 0
KnowsTaken cell place taken = IsPlace place × (left_at place ≡ facts (reverse (normals cell taken)))

-- the digest of some bytes
unfoldable pub digest_of_bytes : List ℕ → ℕ
digest_of_bytes bytes = fold digest_with 0xcbf2_9ce4_8422_2325 bytes

-- the digest of a table's neighbours and kinds
unfoldable pub digest_of : FlatTable → ℕ
digest_of table =
    fold digest_with (digest_of_neighbours 0xcbf2_9ce4_8422_2325 table.pairs) table.kinds

-- the table has this layout, and its digest is that of its numbers
abbrev pub IsWhole : FlatTable → Type 0
IsWhole table = (table.layout ≡ LAYOUT) × (table.digest ≡ digest_of table)
