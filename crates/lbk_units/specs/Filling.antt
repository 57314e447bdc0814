-- What a call promises that fills a block from a place of a text on: each set of clauses once.
use Rattle.std.specs.Prelude.{◌≡◌, ℕ, ◌<◌, ◌≤◌, List, length}
use Rattle.bstr.specs.Utf8.{Decoded}
use Rattle.lbk_rules.specs.declared.Cell.{Cell}
use Rattle.lbk_rules.specs.declared.neighbours.Neighbours.{Neighbours}
use Rattle.lbk_values.specs.declared.profile.Profile.{Profile}
use Rattle.lbk_rules.specs.FlatTable.{AreFlatKinds, IsFlatBy}
use Rattle.lbk_rules.specs.Rows.{steps_in}
use Rattle.lbk_rules.specs.declared.steps.Step.{Step}
use Rattle.lbk_bytes.specs.declared.fill_state.FillState.{FillState}
use Rattle.lbk_bytes.specs.declared.raw_break.RawBreak.{RawBreak}
use Rattle.lbk_bytes.specs.Bytes.{AtEnd}
use Rattle.lbk_bytes.specs.Reached.{Ahead, IsInOrderBy, Onward}
use Rattle.lbk_bytes.specs.Shown.{given_in}
pub use Rattle.lbk_bytes.specs.Steps.{IsInText}
use Rattle.lbk_units.specs.Reached.{Follows, UnitsReachedBy, on_from}

-- whatever the table: the call stays in a text of so many units and in the block, does not go back, and writes what
-- `Is` says, in order
pub record GoesOn (Is : RawBreak → Type 0) (size : ℕ) (old : List RawBreak) (start : FillState) (new : List RawBreak)
    (result : FillState) : Type 0 where
  pub within : IsInText result size (length old)
  pub onward : (start.at ≤ result.at) × (start.count ≤ result.count)
  pub in_order : (from : ℕ) → IsInOrderBy Is old start.count from start.at
      → IsInOrderBy Is new result.count from result.at

-- if before the call some of these were given, and the others come from the unit on where it began, so it is after the
-- call, where it ended
abbrev pub GivesOf : (AtEnd → Onward) → Profile → (ℕ → Cell) → (ℕ → List Decoded)
    → List RawBreak → FillState → List RawBreak → FillState → Type 0
GivesOf onward profile cell on old start new result =
    (all : Ahead)
    → UnitsReachedBy (onward all.end) profile cell on all.breaks start (given_in old start.count)
    → UnitsReachedBy (onward all.end) profile cell on all.breaks result (given_in new result.count)

-- so it is of a call that takes scalars by the steps of a profile and the kinds of a table
pub record RunsOn {A : Type 0} (Is : RawBreak → Type 0) (onward : AtEnd → Onward) (pieces_of : List A → List Decoded)
    (kinds : List ℕ) (steps : List (List Step)) (text : List A) (old : List RawBreak) (start : FillState)
    (new : List RawBreak) (result : FillState) : Type 0 where
  pub goes_on : GoesOn Is (length text) old start new result
  pub gives : (profile : Profile) (cell : ℕ → Cell) (on : ℕ → List Decoded) → steps ≡ steps_in profile
      → AreFlatKinds kinds cell
      → Follows pieces_of text on
      → GivesOf onward profile cell on old start new result

-- the block is filled until it is full or the text ends
pub record Fills {A : Type 0} (Is : RawBreak → Type 0) (onward : AtEnd → Onward) (pieces_of : List A → List Decoded)
    (kinds : List ℕ) (pairs : Neighbours) (profile : Profile) (text : List A) (old : List RawBreak) (start : FillState)
    (new : List RawBreak) (result : FillState) : Type 0 where
  pub within : IsInText result (length text) (length old)
  pub stops : result.count < length old → result.at ≡ length text
  pub no_room : length old ≡ 0 → result ≡ start
  pub in_order : (from : ℕ) → IsInOrderBy Is old start.count from start.at
      → IsInOrderBy Is new result.count from result.at
  pub reached : (cell : ℕ → Cell) (all : Ahead) → IsFlatBy kinds pairs cell
      → UnitsReachedBy (onward all.end) profile cell (on_from pieces_of text) all.breaks start
      (given_in old start.count)
      → UnitsReachedBy (onward all.end) profile cell (on_from pieces_of text) all.breaks result
      (given_in new result.count)
