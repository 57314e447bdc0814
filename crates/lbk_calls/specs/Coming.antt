-- What is to come of a text from a state on.
use Rattle.std.specs.Prelude.{◌≡◌, ℕ, Bool, ◌+◌, ◌*◌, ◌<◌, ◌≤◌, ◌⊎◌, ◌++◌, List, [], length, drop, take, min, Some}
use Rattle.std.specs.Prelude.{None}
use Rattle.bstr.specs.Utf8.{Decoded, pieces}
use Rattle.lbk_rules.specs.declared.Break.{Break}
use Rattle.lbk_rules.specs.declared.Cell.{Cell}
use Rattle.lbk_rules.specs.declared.neighbours.Neighbours.{Neighbours}
use Rattle.lbk_values.specs.declared.profile.Profile.{Profile}
use Rattle.lbk_rules.specs.FlatTable.{IsFlatBy, KnowsTaken}
use Rattle.lbk_rules.specs.Rows.{IsPlace, place_by}
use Rattle.lbk_bytes.specs.declared.fill_state.FillState.{FillState}
use Rattle.lbk_bytes.specs.declared.raw_break.RawBreak.{RawBreak}
use Rattle.lbk_calls.specs.declared.interface.State.{State}
use Rattle.lbk_calls.specs.State.{goes_on, plain, profile_numbered}
use Rattle.lbk_bytes.specs.Bytes.{AtEnd, end_in}
use Rattle.lbk_bytes.specs.Marks.{boundary_from, from_on, is_marked, stands_among}
use Rattle.lbk_bytes.specs.Order.{AreInOrderBy}
use Rattle.lbk_bytes.specs.Reached.{IsInOrderBy, Onward, onward_all, onward_to, position_end_in}
use Rattle.lbk_bytes.specs.Shown.{given_in}
use Rattle.lbk_units.specs.Reached.{UnitsReachedBy, on_from}

-- where a state stands in a text
abbrev pub from_state : State → FillState
from_state state = record { count = 0; row = state.row; at = state.at }

-- where a call starts: at a row, whatever number the state has
abbrev pub start_by : State → FillState
start_by state = record { count = 0; row = place_by state.row; at = state.at }

-- no break comes from the state on: it names no profile, has given all, or is past the text
abbrev pub IsSpent : State → ℕ → Type 0
IsSpent state len = (profile_numbered state.profile ≡ None) ⊎ ((0 < state.ended) ⊎ (len < state.at))

-- breaks may come from it on, in this profile
pub record IsGoing (profile : Profile) (state : State) (len : ℕ) : Type 0 where
  pub named : profile_numbered state.profile ≡ Some profile
  pub unended : state.ended ≡ 0
  pub within : state.at ≤ len

-- from the state on these come of this text, if it has not given all
pub record UnitsOnto {A : Type 0} (from : Onward) (pieces_of : List A → List Decoded) (profile : Profile)
    (cell : ℕ → Cell) (text : List A) (state : State) (to_come : List Break) : Type 0 where
  pub within : state.at ≤ length text
  pub goes_on : state.ended ≡ 0 → UnitsReachedBy from profile cell (on_from pieces_of text) to_come
      (from_state state) []
  pub none_come : 0 < state.ended → to_come ≡ []

-- the state came of the start of this text, and these are to come
pub record UnitsComeBy {A : Type 0} (from : Onward) (pieces_of : List A → List Decoded) (cell : ℕ → Cell)
    (kinds : List ℕ) (pairs : Neighbours) (text : List A) (state : State) (to_come : List Break) : Type 0 where
  pub profile : Profile
  pub named : profile_numbered state.profile ≡ Some profile
  pub flat : IsFlatBy kinds pairs cell
  pub onto : UnitsOnto from pieces_of profile cell text state to_come

-- the same of what is given from a unit on, by what comes at the end, which the number of a profile tells
abbrev pub ComeOf : {A : Type 0} → (AtEnd → Onward) → (Bool → AtEnd) → (List A → List Decoded) → (ℕ → Cell)
    → List ℕ → Neighbours → List A → State → List Break → Type 0
ComeOf onward end_in pieces_of cell kinds pairs text state to_come =
    UnitsComeBy (onward (end_in (goes_on state.profile))) pieces_of cell kinds pairs text (plain state) to_come

-- the same of breaks
abbrev pub UnitsCome : {A : Type 0} → (List A → List Decoded) → (ℕ → Cell) → List ℕ → Neighbours → List A → State
    → List Break → Type 0
UnitsCome = ComeOf onward_to end_in

-- the same of all positions
abbrev pub PositionsCome : {A : Type 0} → (List A → List Decoded) → (ℕ → Cell) → List ℕ → Neighbours → List A → State
    → List Break → Type 0
PositionsCome = ComeOf onward_all position_end_in

-- the breaks of bytes
abbrev pub Comes : (ℕ → Cell) → List ℕ → Neighbours → List ℕ → State → List Break → Type 0
Comes = UnitsCome pieces

-- the breaks from a byte on, by what the number of a profile says of the text's end
abbrev pub onward_in : ℕ → Onward
onward_in number = onward_to (end_in (goes_on number))

-- of those to come as many were given as there was room for, and the others come from the state on
pub record UnitsGo {A : Type 0} (from : Onward) (pieces_of : List A → List Decoded) (profile : Profile)
    (cell : ℕ → Cell) (text : List A) (to_come : List Break) (state : State) (given : List Break)
    (count room : ℕ) : Type 0 where
  pub counted : count ≡ min room (length to_come)
  pub front : given ≡ take count to_come
  pub onto : UnitsOnto from pieces_of profile cell text state (drop count to_come)

-- where the breaks in front of a block were the first of those to come from a state on, a call goes on with the others
abbrev pub UnitsGoOn : {A : Type 0} → Onward → (List A → List Decoded) → List A → State → FillState → List RawBreak → State
    → List RawBreak → ℕ → Type 0
UnitsGoOn from pieces_of text old here before new block result =
    (profile : Profile) (cell : ℕ → Cell) (to_come : List Break) → IsPlace old.row
    → UnitsReachedBy from profile cell (on_from pieces_of text) to_come here (given_in before here.count)
    → UnitsGo from pieces_of profile cell text to_come (plain new) (given_in block result) result (length before)

-- of the places from a byte on the bits tell at which those to come stand, and those behind come from the state on,
-- which stands at the first scalar behind the places, or at the text's end
pub record MarksBy (from : Onward) (profile : Profile) (cell : ℕ → Cell) (text : List ℕ) (to_come : List Break)
    (place : ℕ) (state : State) (words : List ℕ) : Type 0 where
  pub bits : (i : ℕ) → i < 64 * length words → is_marked words i ≡ stands_among (place + i) to_come
  pub onto : UnitsOnto from pieces profile cell text state (from_on (place + 64 * length words) to_come)
  pub boundary : state.at ≡ boundary_from text place (place + 64 * length words)

-- after the entries in the front of a block what comes at an end was put, one or none: by the scalars before it
pub record PutsEnd (Is : RawBreak → Type 0) (end : AtEnd) (row : ℕ) (old new : List RawBreak) (count at result : ℕ)
    : Type 0 where
  pub within : (result ≤ length old) × (count ≤ result) × (result ≤ count + 1)
  pub in_order : (from to : ℕ) → at < to → IsInOrderBy Is old count from at → AreInOrderBy Is new result from to
  pub front : (profile : Profile) (cell : ℕ → Cell) (taken : List ℕ) → KnowsTaken cell row taken
      → (0 < row → 0 < length taken)
      → given_in new result ≡ given_in old count ++ end profile cell taken at
