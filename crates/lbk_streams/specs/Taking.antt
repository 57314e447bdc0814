-- What the steps of a call promise that takes units of a piece: each set of clauses once.
use Rattle.std.specs.Prelude.{◌≡◌, ◌⊎◌, ℕ, ◌+◌, ◌%◌, ◌^◌, ◌<◌, ◌≤◌, min, Bool, true, List, length, if◌then◌else◌}
use Rattle.bstr.specs.Utf8.{Decoded}
use Rattle.lbk_rules.specs.declared.Cell.{Cell}
use Rattle.lbk_rules.specs.declared.neighbours.Neighbours.{Neighbours}
use Rattle.lbk_values.specs.declared.profile.Profile.{Profile}
use Rattle.lbk_rules.specs.FlatTable.{IsFlatBy}
use Rattle.lbk_bytes.specs.declared.raw_break.RawBreak.{RawBreak}
use Rattle.lbk_bytes.specs.Order.{AreBreaks}
use Rattle.lbk_bytes.specs.Shown.{given_in}
use Rattle.lbk_streams.specs.declared.stream.Cut.{Cut}
use Rattle.lbk_streams.specs.declared.stream.Feeding.{Feeding}
use Rattle.lbk_streams.specs.declared.stream.StreamPosition.{StreamPosition}
use Rattle.lbk_streams.specs.declared.taking.Step.{Step}
use Rattle.lbk_streams.specs.Stands.{Ahead, AreFew, Feeds, IsOrdered, IsPlaced, front_of}

-- the scalars that a step takes: one, or none where the block is full before it
abbrev pub taken_by : Step → ℕ
taken_by step = if step.passed then 1 else 0

-- whatever the table: at a scalar of so many units, which it may take, a step writes breaks in order after those in the
-- block, one at most for the scalar and one for the position that waited
pub record Steps (size : ℕ) (old : List RawBreak) (count : ℕ) (place : StreamPosition) (new : List RawBreak)
    (step : Step) : Type 0 where
  pub within : (count ≤ step.count) × (step.count ≤ length old)
  pub breaks : AreBreaks old count → AreBreaks new step.count
  pub few : step.count + min step.place.held_code 1 ≤ count + min place.held_code 1 + taken_by step
  pub at : step.place.at ≡ (if step.passed then (place.at + size) % 2 ^ 64 else place.at)
  pub placed : (from : ℕ) → (step.passed ≡ true → (0 < size) × (place.at + size < 2 ^ 64))
      → IsPlaced old count from place
      → IsPlaced new step.count from step.place

-- no unit is cut, or these, which more units could make a scalar of
pub record IsOpen {A : Type 0} (could_go_on : List A → Bool) (widest : ℕ) (cut : Cut A) : Type 0 where
  pub unfinished : (cut.size ≡ 0) ⊎ (could_go_on (front_of cut) ≡ true)
  pub few : cut.size < widest

-- whatever the table: what a call writes while it takes units of a piece up to this one
pub record Takes {A : Type 0} (widest end : ℕ) (old : List RawBreak) (start : Feeding A) (new : List RawBreak)
    (result : Feeding A) : Type 0 where
  pub cut : result.cut.size ≤ widest
  pub room : result.count ≤ length old
  pub breaks : AreBreaks old start.count → AreBreaks new result.count
  pub counted : AreFew start result
  pub ordered : (base from : ℕ) → base + end < 2 ^ 64
      → IsOrdered old base from start
      → IsOrdered new base from result

-- if all breaks stood so where a call began, they stand so where it ends
abbrev pub FeedsOn : {A : Type 0} → (List A → List Decoded) → Profile → (ℕ → Cell) → List A → List A
    → List RawBreak → Feeding A → List RawBreak → Feeding A → Type 0
FeedsOn pieces_of profile cell piece more old start new result =
    (base : ℕ) (all : Ahead)
    → Feeds pieces_of profile cell base piece more start all (given_in old start.count)
    → Feeds pieces_of profile cell base piece more result all (given_in new result.count)

-- a call takes units of this piece, whatever follows it
pub record TakesOf {A : Type 0} (pieces_of : List A → List Decoded) (widest : ℕ) (kinds : List ℕ) (pairs : Neighbours)
    (profile : Profile) (piece : List A) (old : List RawBreak) (start : Feeding A) (new : List RawBreak)
    (result : Feeding A) : Type 0 where
  pub takes : Takes widest (length piece) old start new result
  pub within : (start.taken ≤ result.taken) × (result.taken ≤ length piece)
  pub feeds : (cell : ℕ → Cell) (more : List A) → IsFlatBy kinds pairs cell
      → FeedsOn pieces_of profile cell piece more old start new result

-- it takes one unit at least, and leaves none that no more units could make a scalar of, unless the block is full
pub record TakesSome {A : Type 0} (could_go_on : List A → Bool) (pieces_of : List A → List Decoded) (widest : ℕ)
    (kinds : List ℕ) (pairs : Neighbours) (profile : Profile) (piece : List A) (old : List RawBreak) (start : Feeding A)
    (new : List RawBreak) (result : Feeding A) : Type 0 where
  pub takes : TakesOf pieces_of widest kinds pairs profile piece old start new result
  pub onward : start.taken < result.taken
  pub unfinished : result.count < length old → IsOpen could_go_on widest result.cut
