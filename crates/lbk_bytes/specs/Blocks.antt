-- A block of up to 64 bytes whose breaks the sets of its bytes tell.
use Rattle.std.specs.Prelude.{◌≡◌, ◌⊎◌, ℕ, ◌+◌, ◌-◌, ◌<◌, ◌≤◌, ◌||◌, Bool, true, false, List, length, take, drop}
use Rattle.std.specs.Prelude.{slice_index_or, nat_le, if◌then◌else◌}
use Rattle.lbk_masks.specs.Sets.{is_set, left_in, meets, right_in}
use Rattle.lbk_masks.specs.Strays.{is_stray}
use Rattle.lbk_rules.specs.declared.Cell.{Cell}
use Rattle.lbk_rules.specs.declared.steps.Step.{Step}
use Rattle.lbk_rules.specs.declared.neighbours.Neighbours.{Neighbours}
use Rattle.lbk_values.specs.declared.profile.Profile.{Profile}
use Rattle.lbk_rules.specs.FlatTable.{AreFlatKinds}
use Rattle.lbk_rules.specs.Neighbours.{AreSettled, is_special, row_behind}
use Rattle.lbk_rules.specs.Rows.{steps_in}
use Rattle.lbk_bytes.specs.declared.blocks.BlockState.{BlockState}
use Rattle.lbk_bytes.specs.declared.block_marks.Marks.{Marks}
use Rattle.lbk_bytes.specs.declared.fill_state.FillState.{FillState}

-- the byte at a place
abbrev pub byte_at : List ℕ → ℕ → ℕ
byte_at text place = slice_index_or text place 0

-- the place of the row of the byte before a place
abbrev pub row_before : Neighbours → List ℕ → ℕ → ℕ
row_before pairs text place = row_behind pairs (byte_at text (place - 1))

-- the row here is that of the byte before, which is the last of a scalar of one byte or two, if of one
pub record Rests (pairs : Neighbours) (here : FillState) (text : List ℕ) : Type 0 where
  pub below : byte_at text (here.at - 1) < 192
  pub row : here.row ≡ slice_index_or pairs.rows (byte_at text (here.at - 1)) 0

-- whether the byte at a place stands out behind the one before it
abbrev pub stands_at : Neighbours → List ℕ → ℕ → Bool
stands_at pairs text place = meets (left_in pairs.sets (byte_at text (place - 1)))
    (right_in pairs.sets (byte_at text place))

-- whether the byte at a place is left to steps, in a block that begins here
abbrev pub stops_at : Neighbours → List ℕ → ℕ → ℕ → Bool
stops_at pairs text at i =
    is_special pairs (byte_at text (at + i - 1)) (byte_at text (at + i))
    || is_stray (take (length text - at) (drop at text)) i

-- behind the end of a text all bits are set
abbrev pub AreEnded : List ℕ → ℕ → ℕ → Type 0
AreEnded text at stops = (i : ℕ) → i < 64 → length text ≤ at + i → is_set stops i ≡ true

-- behind the end of a text no bit is set
abbrev pub AreInside : List ℕ → ℕ → ℕ → Type 0
AreInside text at bits = (i : ℕ) → i < 64 → length text ≤ at + i → is_set bits i ≡ false

-- these are the marks of the 64 bytes from here on, or of all that are left, where they are fewer
pub record AreMarks (pairs : Neighbours) (text : List ℕ) (at : ℕ) (marks : Marks) : Type 0 where
  pub begins : 0 < at
  pub standing : (i : ℕ) → i < 64 → at + i < length text → is_set marks.standing i ≡ stands_at pairs text (at + i)
  pub stops : (i : ℕ) → i < 64 → at + i < length text → is_set marks.stops i ≡ stops_at pairs text at i
  pub ends : AreEnded text at marks.stops

-- a byte that goes on with a scalar stands here
pub record GoesOn (text : List ℕ) (place : ℕ) : Type 0 where
  pub least : 128 ≤ byte_at text place
  pub below : byte_at text place < 192
  pub within : place < length text

-- a byte of a scalar of one byte or two: with the byte before it the first of a scalar tells the step by it, and the
-- second stands behind the first and does not stand out
pub record IsByteTold (steps : List (List Step)) (kinds : List ℕ) (pairs : Neighbours) (text : List ℕ)
    (place : ℕ) : Type 0 where
  pub settled : (byte_at text place < 128) ⊎ (192 ≤ byte_at text place)
      → (byte_at text (place - 1) < 192) × AreSettled steps kinds pairs (byte_at text (place - 1)) (byte_at text place)
  pub goes_on : 192 ≤ byte_at text place → GoesOn text (place + 1)
  pub quiet : 128 ≤ byte_at text place → byte_at text place < 192
      → (192 ≤ byte_at text (place - 1)) × (stands_at pairs text place ≡ false)

-- from one on the first bytes of the block are scalars of one byte or two, whose last is there too
pub record IsBlock (profile : Profile) (cell : ℕ → Cell) (steps : List (List Step)) (kinds : List ℕ)
    (pairs : Neighbours) (text : List ℕ) (at begin taken : ℕ) : Type 0 where
  pub steps_are : steps ≡ steps_in profile
  pub kinds_are : AreFlatKinds kinds cell
  pub few : taken ≤ 64
  pub within : at + taken ≤ length text
  pub told : (i : ℕ) → begin ≤ i → i < taken → IsByteTold steps kinds pairs text (at + i)
  pub ends : byte_at text (at + taken - 1) < 192

-- no break is left but from here on, in the first bytes of the block
pub record IsAhead (at taken : ℕ) (here : BlockState) : Type 0 where
  pub within : here.past ≤ at + taken
  pub none : (i : ℕ) → i < 64 → (taken ≤ i) ⊎ (at + i < here.past) → is_set here.left i ≡ false

-- of the first bytes of the block those that stand out are left from here on
pub record AreLeft (pairs : Neighbours) (text : List ℕ) (at begin taken : ℕ) (here : BlockState) : Type 0 where
  pub after : at + begin ≤ here.past
  pub within : here.past ≤ at + taken
  pub told : (i : ℕ) → i < taken → here.past ≤ at + i → is_set here.left i ≡ stands_at pairs text (at + i)
  pub none : (i : ℕ) → i < 64 → (taken ≤ i) ⊎ (at + i < here.past) → is_set here.left i ≡ false

-- the end of the scalar that the byte before a place is of, if it has at most two bytes
unfoldable pub end_at : List ℕ → ℕ → ℕ
end_at text place = if nat_le 192 (byte_at text (place - 1)) then place + 1 else place

-- where a call stands in a text whose scalars up to here were taken
abbrev pub place_at : Neighbours → List ℕ → ℕ → ℕ → FillState
place_at pairs text count place =
    record { count = count; row = row_before pairs text (end_at text place); at = end_at text place }

abbrev pub place_in : Neighbours → List ℕ → BlockState → FillState
place_in pairs text here = place_at pairs text here.count here.past
