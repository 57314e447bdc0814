-- What the calls promise that put the next breaks or positions of a text into a block: each set of clauses once.
use Rattle.std.specs.Prelude.{◌≡◌, ℕ, Bool, false, suc, ◌<◌, ◌≤◌, ◌⊎◌, List, [], drop, length, map, min, take}
use Rattle.bstr.specs.Utf8.{Decoded}
use Rattle.lbk_rules.specs.declared.Break.{Break}
use Rattle.lbk_rules.specs.declared.Cell.{Cell}
use Rattle.lbk_rules.specs.declared.neighbours.Neighbours.{Neighbours}
use Rattle.lbk_values.specs.declared.profile.Profile.{Profile}
use Rattle.lbk_rules.specs.FlatTable.{IsFlatBy}
use Rattle.lbk_rules.specs.Joins.{moved}
use Rattle.lbk_bytes.specs.declared.raw_break.RawBreak.{RawBreak}
use Rattle.lbk_bytes.specs.Bytes.{AtEnd, breaks_of_bytes, breaks_of_part, end_in}
use Rattle.lbk_bytes.specs.Order.{AreInOrder, AreInOrderBy, IsBreak, IsPosition}
use Rattle.lbk_bytes.specs.Reached.{Onward, onward_all, onward_to, position_end_in}
use Rattle.lbk_bytes.specs.Shown.{given_in}
use Rattle.lbk_units.specs.Positions.{breaks_among, positions_of_part_of, positions_of_pieces}
use Rattle.lbk_units.specs.Units.{breaks_of_part_of, breaks_of_pieces}
use Rattle.lbk_calls.specs.declared.interface.State.{State}
use Rattle.lbk_calls.specs.Coming.{ComeOf, Comes}
use Rattle.lbk_calls.specs.State.{part_start, start_in}

-- how a call moves the state, with any table and state: the text has `size` units, the block has room for `room`
-- entries, and the call gives `result` of them
pub record Advances (old new : State) (size room result : ℕ) : Type 0 where
  pub profile_same : new.profile ≡ old.profile
  pub forward : 0 < result → (old.at < new.at) ⊎ (0 < new.ended)
  pub onward : old.at ≤ new.at
  pub inside : old.at ≤ size → new.at ≤ size
  pub at_end : old.ended ≡ 0 → 0 < new.ended → new.at ≡ size
  pub ended : 0 < old.ended → (result ≡ 0) × (new ≡ old)
  pub past : size < old.at → (result ≡ 0) × (new ≡ old)
  pub unknown : 3 < old.profile → (result ≡ 0) × (new ≡ old)
  pub no_room : room ≡ 0 → (result ≡ 0) × (new ≡ old)

-- the same, and what is true of the entries: `InOrder` says that they are by rules, and that their offsets rise from
-- one offset on and stay below another
pub record GoesOver (InOrder : List RawBreak → ℕ → ℕ → ℕ → Type 0) (old new : State) (size room : ℕ)
    (out : List RawBreak) (result : ℕ) : Type 0 where
  pub advances : Advances old new size room result
  pub within : result ≤ room
  pub in_order : InOrder out result old.at (suc size)
  pub before_state : new.ended ≡ 0 → InOrder out result old.at new.at
  pub all : old.profile ≤ 3 → old.at ≤ size → result < room → 0 < new.ended

-- if these are to come from a state on, the call gives as many of them as it has room for, and the others are to come
-- from the new state on
pub record GivesNext (Come : State → List Break → Type 0) (new : State) (room : ℕ) (out : List RawBreak) (result : ℕ)
    (to_come : List Break) : Type 0 where
  pub count : result ≡ min room (length to_come)
  pub front : given_in out result ≡ take result to_come
  pub rest : Come new (drop result to_come)

-- `Come` says that these are to come from a state on. `whole` has the breaks or positions of a text, and `part_of`
-- those of a part of a text, after which the text goes on (true) or ends
module _ {A : Type 0} (Come : (ℕ → Cell) → List ℕ → Neighbours → List A → State → List Break → Type 0)
    (whole : Profile → (ℕ → Cell) → List A → List Break)
    (part_of : Bool → Profile → (ℕ → Cell) → List A → List Break) where
  -- all of a text are to come from the state at its start, and those of a part, which may begin at any unit, from the
  -- state there
  pub record ComeAtStart (kinds : List ℕ) (pairs : Neighbours) (text : List A) (state : State) : Type 0 where
    pub start : (cell : ℕ → Cell) (profile : Profile) → IsFlatBy kinds pairs cell → state ≡ start_in profile
        → Come cell kinds pairs text state (whole profile cell text)
    pub part : (cell : ℕ → Cell) (profile : Profile) (goes_on : Bool) (at : ℕ) → IsFlatBy kinds pairs cell
        → at ≤ length text
        → state ≡ part_start goes_on profile at
        → Come cell kinds pairs text state (map (moved at) (part_of goes_on profile cell (drop at text)))

  -- a call gives the next ones from a state on
  pub record Gives (InOrder : List RawBreak → ℕ → ℕ → ℕ → Type 0) (kinds : List ℕ) (pairs : Neighbours) (text : List A)
      (old new : State) (room : ℕ) (out : List RawBreak) (result : ℕ) : Type 0 where
    pub goes_over : GoesOver InOrder old new (length text) room out result
    pub begins : ComeAtStart kinds pairs text old
    pub gives : (cell : ℕ → Cell) (to_come : List Break) → Come cell kinds pairs text old to_come
        → GivesNext (Come cell kinds pairs text) new room out result to_come

-- the breaks of bytes
abbrev pub BreaksComeAtStart : List ℕ → Neighbours → List ℕ → State → Type 0
BreaksComeAtStart = ComeAtStart Comes breaks_of_bytes breaks_of_part

abbrev pub GivesBreaks : List ℕ → Neighbours → List ℕ → State → State → ℕ → List RawBreak → ℕ → Type 0
GivesBreaks = Gives Comes breaks_of_bytes breaks_of_part AreInOrder

-- what pieces have as a whole text, and as a part of one, is what is given from their first on
pub record AreGivenWhole (onward : AtEnd → Onward) (end_in : Bool → AtEnd)
    (whole : Profile → (ℕ → Cell) → List Decoded → List Break)
    (part_of : Bool → Profile → (ℕ → Cell) → List Decoded → List Break) : Type 0 where
  pub starts : (profile : Profile) (cell : ℕ → Cell) (ps : List Decoded)
      → whole profile cell ps ≡ onward (end_in false) profile cell [] 0 ps
  pub parts : (goes_on : Bool) (profile : Profile) (cell : ℕ → Cell) (at : ℕ) (ps : List Decoded)
      → map (moved at) (part_of goes_on profile cell ps) ≡ onward (end_in goes_on) profile cell [] at ps

-- of units, by what is read of them: what is true of the entries, what is given from a unit on and comes at an end, and
-- what pieces have as a text and as a part of one
abbrev pub GivesBy : {A : Type 0} → (RawBreak → Type 0) → (AtEnd → Onward) → (Bool → AtEnd)
    → (Profile → (ℕ → Cell) → List Decoded → List Break)
    → (Bool → Profile → (ℕ → Cell) → List Decoded → List Break) → (List A → List Decoded) → List ℕ → Neighbours → List A
    → State → State → ℕ → List RawBreak → ℕ → Type 0
GivesBy Is onward end_in whole part_of pieces_of =
    Gives (ComeOf onward end_in pieces_of) (λ profile cell text. whole profile cell (pieces_of text))
    (λ goes_on profile cell part. part_of goes_on profile cell (pieces_of part)) (AreInOrderBy Is)

-- their breaks
abbrev pub GivesBreaksOf : {A : Type 0} → (List A → List Decoded) → List ℕ → Neighbours → List A → State → State → ℕ
    → List RawBreak → ℕ → Type 0
GivesBreaksOf pieces_of = GivesBy IsBreak onward_to end_in breaks_of_pieces breaks_of_part_of pieces_of

-- and their positions
abbrev pub GivesPositionsOf : {A : Type 0} → (List A → List Decoded) → List ℕ → Neighbours → List A → State → State → ℕ
    → List RawBreak → ℕ → Type 0
GivesPositionsOf pieces_of =
    GivesBy IsPosition onward_all position_end_in positions_of_pieces positions_of_part_of pieces_of

-- the breaks of a text are those of its positions where a line may or must end
abbrev pub AreAmong : (Profile → (ℕ → Cell) → List ℕ → List Break)
    → (Profile → (ℕ → Cell) → List ℕ → List Break) → List ℕ → Type 0
AreAmong positions breaks text =
    (cell : ℕ → Cell) (profile : Profile) → breaks_among (positions profile cell text) ≡ breaks profile cell text
