-- The annex's own wording of what the definitions compute (UAX #14, section 6), over whole lists from first to last.
use Rattle.std.specs.Prelude.{ℕ, zero, suc, ◌≡◌, ◌⊎◌, Bool, true, false, ◌||◌, not, List, [], ◌∷◌, ◌++◌, reverse}
use Rattle.std.specs.List.{AllByRecursion}
use Rattle.lbk_uax14.specs.declared.classes.Class.{Class}
use Rattle.lbk_uax14.specs.declared.classes.Quote.TheVariants.{Initial, Final}
use Rattle.lbk_uax14.specs.declared.cells.Cell.{Cell}
use Rattle.lbk_uax14.specs.Classes.{Set, SP, RI, QU, hard, mark, none_of, opens_after, closes_before}
use Rattle.lbk_uax14.specs.Sides.{is_nothing, at}

-- a set without SP
abbrev pub HasNoSpace : Set → Type 0
HasNoSpace x = (class : Class) → SP class ≡ true → x class ≡ false

-- a list ends with 'X SP*': some cell has a class of X, and all later cells have SP
pub record EndsInSpacesAfter (x : Set) (cells : List Cell) : Type 0 where
  pub before : List Cell
  pub cell : Cell
  pub spaces : List Cell
  pub joined : cells ≡ before ++ cell ∷ spaces
  pub of_set : x cell.class ≡ true
  pub all_spaces : AllByRecursion (λ (c : Cell). SP c.class ≡ true) spaces

-- the longest run of indicators at the end of a list: all its cells are indicators, and what comes before it does not
-- end with one
pub record EndsInRun (cells run : List Cell) : Type 0 where
  pub before : List Cell
  pub joined : cells ≡ before ++ run
  pub all_indicators : AllByRecursion (λ (c : Cell). RI c.class ≡ true) run
  pub longest : (rest : List Cell) (cell : Cell) → before ≡ rest ++ cell ∷ [] → RI cell.class ≡ true → ⊥

-- the last of a list is of this set
pub record EndsIn (x : Set) (cells : List Cell) : Type 0 where
  pub before : List Cell
  pub cell : Cell
  pub joined : cells ≡ before ++ cell ∷ []
  pub of_set : x cell.class ≡ true

-- the first of a list is of this set
pub record BeginsIn (x : Set) (cells : List Cell) : Type 0 where
  pub cell : Cell
  pub after : List Cell
  pub joined : cells ≡ cell ∷ after
  pub of_set : x cell.class ≡ true

-- a list ends with an opening quotation mark and spaces; before the mark is nothing, or a class that leaves it open
-- (rule LB15a)
pub record EndsInOpenQuotation (cells : List Cell) : Type 0 where
  pub before : List Cell
  pub quotation : Cell
  pub spaces : List Cell
  pub joined : cells ≡ before ++ quotation ∷ spaces
  pub of_class : QU quotation.class ≡ true
  pub opens : quotation.quote ≡ Initial
  pub left_open : (before ≡ []) ⊎ EndsIn opens_after before
  pub all_spaces : AllByRecursion (λ (c : Cell). SP c.class ≡ true) spaces

-- a list begins with a closing quotation mark; after the mark is nothing, or a class that leaves it closed (rule LB15b)
pub record BeginsInClosedQuotation (cells : List Cell) : Type 0 where
  pub quotation : Cell
  pub after : List Cell
  pub joined : cells ≡ quotation ∷ after
  pub of_class : QU quotation.class ≡ true
  pub closes : quotation.quote ≡ Final
  pub left_closed : (after ≡ []) ⊎ BeginsIn closes_before after

-- how many are left over after pairing
abbrev pub is_odd : ℕ → Bool
is_odd zero = false
is_odd (suc n) = not (is_odd n)

-- a cell heads a unit if it is the first, if it is no mark, or if the cell before it has a hard class
abbrev pub is_head : List Cell → Cell → Bool
is_head before cell = is_nothing (reverse before) || none_of mark cell.class || at hard (reverse before)
