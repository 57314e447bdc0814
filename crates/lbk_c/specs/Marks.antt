-- What the call promises that sets a bit for each break of a text: each set of clauses once.
use Rattle.std.specs.Prelude.{◌≡◌, ℕ, false, suc, ◌+◌, ◌-◌, ◌*◌, ◌<◌, ◌≤◌, List, length, min}
use Rattle.lbk_rules.specs.declared.Break.{Break}
use Rattle.lbk_rules.specs.declared.Cell.{Cell}
use Rattle.lbk_rules.specs.declared.neighbours.Neighbours.{Neighbours}
use Rattle.lbk_bytes.specs.Marks.{boundary_from, from_on, is_marked, stands_among}
use Rattle.lbk_calls.specs.declared.interface.State.{State}
use Rattle.lbk_calls.specs.Calls.{Advances, BreaksComeAtStart}
use Rattle.lbk_calls.specs.Coming.{Comes}

-- with any table and state, over a text of `size` bytes and into `room` words: how many offsets the bits cover, and
-- where the state is then
pub record MarksOver (old new : State) (size room : ℕ) (words : List ℕ) (result : ℕ) : Type 0 where
  pub advances : Advances old new size room result
  pub told : old.profile ≤ 3 → old.ended ≡ 0 → old.at ≤ size → result ≡ min (64 * room) (suc size - old.at)
  pub after : (i : ℕ) → result ≤ i → is_marked words i ≡ false
  pub near : new.at ≤ old.at + 64 * room + 3
  -- nothing is left once the end is covered; before that the state is after the offsets that are covered
  pub all : old.profile ≤ 3 → old.ended ≡ 0 → old.at ≤ size → size < old.at + 64 * room → 0 < new.ended
  pub more : old.profile ≤ 3 → old.ended ≡ 0 → old.at + 64 * room ≤ size
      → (new.ended ≡ 0) × (old.at + 64 * room ≤ new.at)

-- if these breaks are to come from a state on (lbk_breaks gives the same), the bits of their offsets are set and no
-- others, and the breaks after the covered offsets are to come from the new state on. That state is at the first scalar
-- after the covered offsets, read from the old state on, or at the end
pub record MarksNext (cell : ℕ → Cell) (kinds : List ℕ) (pairs : Neighbours) (text : List ℕ) (old new : State)
    (room : ℕ) (words : List ℕ) (to_come : List Break) : Type 0 where
  pub bits : (i : ℕ) → i < 64 * room → is_marked words i ≡ stands_among (old.at + i) to_come
  pub rest : Comes cell kinds pairs text new (from_on (old.at + 64 * room) to_come)
  pub boundary : old.ended ≡ 0 → new.at ≡ boundary_from text old.at (old.at + 64 * room)

-- all that a call promises of the words that it fills
pub record MarksWords (kinds : List ℕ) (pairs : Neighbours) (text : List ℕ) (old new : State) (room : ℕ)
    (words : List ℕ) (result : ℕ) : Type 0 where
  pub marks_over : MarksOver old new (length text) room words result
  pub begins : BreaksComeAtStart kinds pairs text old
  pub marks_next : (cell : ℕ → Cell) (to_come : List Break) → Comes cell kinds pairs text old to_come
      → MarksNext cell kinds pairs text old new room words to_come
