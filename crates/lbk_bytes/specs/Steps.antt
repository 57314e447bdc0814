-- What the loops promise that go over a text by steps and blocks: each set of clauses once.
use Rattle.std.specs.Prelude.{◌≡◌, ℕ, ◌+◌, ◌<◌, ◌≤◌, ◌++◌, Bool, true, IsUtf8, List, MatchOption, Option, length}
use Rattle.lbk_rules.specs.declared.Cell.{Cell}
use Rattle.lbk_rules.specs.declared.neighbours.Neighbours.{Neighbours}
use Rattle.lbk_rules.specs.declared.steps.Step.{Step}
use Rattle.lbk_values.specs.declared.profile.Profile.{Profile}
use Rattle.lbk_values.specs.declared.profile.Profile.TheVariants.{First}
use Rattle.lbk_rules.specs.FlatTable.{AreFlatKinds, IsFlatBy}
use Rattle.lbk_rules.specs.Neighbours.{AreTold}
use Rattle.lbk_rules.specs.Rows.{AreSteps, IsPlace, steps_in}
use Rattle.lbk_bytes.specs.declared.fill_state.FillState.{FillState}
use Rattle.lbk_bytes.specs.declared.raw_break.RawBreak.{RawBreak}
use Rattle.lbk_bytes.specs.Reached.{Ahead, IsInOrder, Reached}
use Rattle.lbk_bytes.specs.Shown.{given_in}

-- steps of some profile may be taken from here on, up to a byte of the text, and written where `Fits` says it
abbrev pub MayStep : {A : Type 0} → (List A → ℕ → ℕ → ℕ → Type 0) → List (List Step) → List ℕ → ℕ → List A → FillState
    → Type 0
MayStep Fits steps text stop out here =
    Fits out here.count here.at stop × IsPlace here.row × (here.at ≤ length text) × (stop ≤ length text)
    × AreSteps steps

-- where it is sure, a text is well-formed, and steps are those of the first profile
abbrev pub IsSure : Bool → List (List Step) → List ℕ → Type 0
IsSure sure steps text = sure ≡ true → (steps ≡ steps_in First) × IsUtf8 text

-- Scalars of a text that begin before byte `stop` are taken one after another, whatever follows the text. A target says
-- of its entries by `Fits` which have a place, by `InOrder` how they stand, and by `Gets` that they are those of what
-- was taken: if so it was before, it is so now.
pub record StepsOn {A : Type 0} (Fits InOrder : List A → ℕ → ℕ → ℕ → Type 0)
    (Gets : Profile → (ℕ → Cell) → List ℕ → Ahead → ℕ → FillState → List A → Type 0) (steps : List (List Step))
    (kinds text : List ℕ) (stop : ℕ) (old : List A) (start : FillState) (new : List A) (result : FillState)
    : Type 0 where
  pub within : Fits new result.count result.at stop × IsPlace result.row × (result.at ≤ length text)
  pub onward : (start.at ≤ result.at) × (start.count ≤ result.count)
  pub in_order : (from : ℕ) → InOrder old start.count from start.at → InOrder new result.count from result.at
  pub near : start.at ≤ stop → result.at ≤ stop + 3
  pub reached : (profile : Profile) (cell : ℕ → Cell) (more : List ℕ) (all : Ahead) (last : ℕ)
      → steps ≡ steps_in profile → AreFlatKinds kinds cell → stop ≤ last
      → Gets profile cell (text ++ more) all last start old
      → Gets profile cell (text ++ more) all last result new

-- One scalar is taken, and nothing is written where none is: what is taken before any byte behind its first is taken by
-- steps.
abbrev pub TakesOne : {A : Type 0} → (List A → ℕ → ℕ → ℕ → Type 0) → (List A → ℕ → ℕ → ℕ → Type 0)
    → (Profile → (ℕ → Cell) → List ℕ → Ahead → ℕ → FillState → List A → Type 0) → List (List Step) → List ℕ → List ℕ
    → List A → FillState → List A → Option FillState → Type 0
TakesOne Fits InOrder Gets steps kinds text old here new result =
    MatchOption result (new ≡ old) (λ next. (here.at < next.at)
    × ((stop : ℕ) → here.at < stop → Fits old here.count here.at stop
    → StepsOn Fits InOrder Gets steps kinds text stop old here new next))

-- a call stands in a text of so many units, and has room for so many breaks or positions
abbrev pub IsInText : FillState → ℕ → ℕ → Type 0
IsInText here size room = (here.count ≤ room) × IsPlace here.row × (here.at ≤ size)

-- a call stays in the text and in the block, goes no way back, and writes breaks in order
pub record GoesIn (text : List ℕ) (old : List RawBreak) (start : FillState) (new : List RawBreak) (result : FillState)
    : Type 0 where
  pub within : IsInText result (length text) (length old)
  pub onward : (start.at ≤ result.at) × (start.count ≤ result.count)
  pub in_order : (from : ℕ) → IsInOrder old start.count from start.at → IsInOrder new result.count from result.at

-- blocks of bytes may be taken from here on by steps of some profile
abbrev pub MayFill : List (List Step) → List ℕ → List RawBreak → FillState → Type 0
MayFill steps text out here =
    (here.count ≤ length out) × IsPlace here.row × (here.at ≤ length text) × AreSteps steps

-- Bytes of a text are taken by steps and by what bytes side by side tell of them, whatever follows the text. Breaks are
-- written in order behind those in the front of the block, and if these were the first of all, so are they now.
pub record FillsOn (steps : List (List Step)) (kinds : List ℕ) (pairs : Neighbours) (text : List ℕ)
    (old : List RawBreak) (start : FillState) (new : List RawBreak) (result : FillState) : Type 0 where
  pub within : IsInText result (length text) (length old)
  pub onward : (start.at ≤ result.at) × (start.count ≤ result.count)
  pub in_order : (from : ℕ) → IsInOrder old start.count from start.at → IsInOrder new result.count from result.at
  pub reached : (profile : Profile) (cell : ℕ → Cell) (more : List ℕ) (all : Ahead)
      → steps ≡ steps_in profile → AreFlatKinds kinds cell → AreTold steps kinds pairs
      → Reached profile cell (text ++ more) all start (given_in old start.count)
      → Reached profile cell (text ++ more) all result (given_in new result.count)

-- the same by the steps of a profile
pub record FillsIn (profile : Profile) (kinds : List ℕ) (pairs : Neighbours) (text : List ℕ)
    (old : List RawBreak) (start : FillState) (new : List RawBreak) (result : FillState) : Type 0 where
  pub within : IsInText result (length text) (length old)
  pub onward : (start.at ≤ result.at) × (start.count ≤ result.count)
  pub in_order : (from : ℕ) → IsInOrder old start.count from start.at → IsInOrder new result.count from result.at
  pub reached : (cell : ℕ → Cell) (more : List ℕ) (all : Ahead) → IsFlatBy kinds pairs cell
      → Reached profile cell (text ++ more) all start (given_in old start.count)
      → Reached profile cell (text ++ more) all result (given_in new result.count)

-- the block is filled until it is full or the text ends
pub record Fills (profile : Profile) (kinds : List ℕ) (pairs : Neighbours) (text : List ℕ)
    (old : List RawBreak) (start : FillState) (new : List RawBreak) (result : FillState) : Type 0 where
  pub within : IsInText result (length text) (length old)
  pub stops : result.count < length old → result.at ≡ length text
  pub no_room : length old ≡ 0 → result ≡ start
  pub in_order : (from : ℕ) → IsInOrder old start.count from start.at → IsInOrder new result.count from result.at
  pub reached : (cell : ℕ → Cell) (all : Ahead) → IsFlatBy kinds pairs cell
      → Reached profile cell text all start (given_in old start.count)
      → Reached profile cell text all result (given_in new result.count)
