-- What sets of bytes tell of the steps by two bytes that stand side by side.
use Rattle.std.specs.Prelude.{◌≡◌, ◌⊎◌, ℕ, zero, suc, ◌+◌, ◌-◌, ◌*◌, ◌^◌, ◌<◌, ◌≤◌, ◌%◌, ◌==◌, ◌&&◌, Bool, true, false}
use Rattle.std.specs.Prelude.{not}
use Rattle.std.specs.Prelude.{List, [], bit_and, bit_xor, fold, if◌then◌else◌, nat_le, nat_lt, slice_index_or}
use Rattle.lbk_rules.specs.Letters.{StandsForAll}
use Rattle.lbk_masks.specs.Sets.{left_in, meets, right_in}
use Rattle.lbk_masks.specs.declared.TheConstants.{SPECIAL}
use Rattle.lbk_uax14.specs.Breaks.{is_no}
use Rattle.lbk_rules.specs.declared.neighbours.Neighbours.{Neighbours}
use Rattle.lbk_rules.specs.declared.neighbours.TheConstants.{BEHIND_A_LETTER, CLASS_OF_KIND, CONTINUING, LEFT, LETTER}
use Rattle.lbk_rules.specs.declared.neighbours.TheConstants.{NO_ROW, OTHER, RIGHT}
use Rattle.lbk_rules.specs.declared.steps.Step.{Step}
use Rattle.lbk_rules.specs.declared.steps.TheConstants.{HELD}
use Rattle.lbk_rules.specs.Rows.{IsPlace, place_by, step_by, steps_in, verdict_shown}
use Rattle.lbk_values.specs.declared.profile.Profile.TheVariants.{First}

-- the class of a kind's bytes: 0 where the steps are asked
abbrev pub class_of_kind : ℕ → ℕ
class_of_kind kind = slice_index_or CLASS_OF_KIND kind 0

-- so many codes from one on are letters
unfoldable pub are_letters : List ℕ → ℕ → ℕ → Bool
are_letters kinds from zero = true
are_letters kinds from (suc n) = (slice_index_or kinds (from + n) 0 == LETTER) && are_letters kinds from n

-- whether all scalars of two bytes that this byte begins are letters (Unicode Standard, table 3-7), and the code that is
-- the byte's number is one
abbrev pub begins_letters : List ℕ → ℕ → Bool
begins_letters kinds byte =
    (nat_le 0xC2 byte && nat_lt byte 0xE0)
    && ((slice_index_or kinds byte 0 == LETTER) && are_letters kinds ((byte - 192) * 64) 64)

-- the class of a byte: that of its kind, or of the first of two that begins letters that of letters
abbrev pub class_of_byte : List ℕ → ℕ → ℕ
class_of_byte kinds byte =
    if nat_lt byte 128 then class_of_kind (slice_index_or kinds byte 0)
    else (if nat_lt byte 192 then CONTINUING
    else (if begins_letters kinds byte then class_of_kind LETTER else OTHER))

-- the place of the row after a letter and a cell of a kind, or of no row where the steps are asked
abbrev pub row_of_kind : ℕ → ℕ
row_of_kind kind = if class_of_kind kind == OTHER then NO_ROW else (step_by (steps_in First) BEHIND_A_LETTER kind).next

-- the same of a byte: of those from 128 on, after a letter
abbrev pub row_of_byte : List ℕ → ℕ → ℕ
row_of_byte kinds byte = row_of_kind (if nat_lt byte 128 then slice_index_or kinds byte 0 else LETTER)

-- each number is the one that follows from the kinds
pub record AreNeighboursOf (kinds : List ℕ) (pairs : Neighbours) : Type 0 where
  pub left : pairs.sets.left ≡ LEFT
  pub right : pairs.sets.right ≡ RIGHT
  pub classes : (row place : ℕ) → row < 8 → place < 16
      → slice_index_or (slice_index_or pairs.sets.classes row []) place 0
      ≡ class_of_byte kinds (16 * row + place) + 16 * class_of_byte kinds (128 + (16 * row + place))
  pub rows : (byte : ℕ) → byte < 256 → slice_index_or pairs.rows byte 0 ≡ row_of_byte kinds byte

-- whether a byte is special behind another
abbrev pub is_special : Neighbours → ℕ → ℕ → Bool
is_special pairs before byte = meets (left_in pairs.sets before) (bit_and (right_in pairs.sets byte) SPECIAL)

-- the place of the row after a byte, whatever the numbers are
abbrev pub row_behind : Neighbours → ℕ → ℕ
row_behind pairs byte = place_by (slice_index_or pairs.rows byte 0)

-- the step by a byte from the row after another
abbrev pub step_behind : List (List Step) → List ℕ → Neighbours → ℕ → ℕ → Step
step_behind steps kinds pairs before byte = step_by steps (row_behind pairs before) (slice_index_or kinds byte 0)

-- the two bytes alone tell what the step does: the byte is a scalar, or stands for all that it begins; its step leads
-- to its row, is not held, and is a break's where the sets meet
pub record AreSettled (steps : List (List Step)) (kinds : List ℕ) (pairs : Neighbours) (before byte : ℕ) : Type 0 where
  pub begins : (byte < 128) ⊎ StandsForAll kinds pairs.rows pairs.sets byte
  pub apart : ¬ ((step_behind steps kinds pairs before byte).shown ≡ HELD)
  pub leads : (step_behind steps kinds pairs before byte).next ≡ slice_index_or pairs.rows byte 0
  pub breaks : meets (left_in pairs.sets before) (right_in pairs.sets byte)
      ≡ not (is_no (verdict_shown (step_behind steps kinds pairs before byte).shown).kind)

-- so it is, unless the byte is special or goes on with a scalar, or the one before it has no row
abbrev pub IsTold : List (List Step) → List ℕ → Neighbours → ℕ → ℕ → Type 0
IsTold steps kinds pairs before byte =
    (byte < 128) ⊎ (192 ≤ byte) → IsPlace (slice_index_or pairs.rows before 0) → is_special pairs before byte ≡ false
    → AreSettled steps kinds pairs before byte

-- so it is of all bytes behind those that may stand last in a scalar
abbrev pub AreTold : List (List Step) → List ℕ → Neighbours → Type 0
AreTold steps kinds pairs = (before byte : ℕ) → before < 192 → byte < 256 → IsTold steps kinds pairs before byte

-- a digest after one more number: FNV-1a, by which no two numbers lead from one digest to the same
abbrev pub digest_with : ℕ → ℕ → ℕ
digest_with digest number = (bit_xor digest number * 0x100_0000_01b3) % 2 ^ 64

-- a digest after all these numbers
unfoldable pub digest_of_neighbours : ℕ → Neighbours → ℕ
digest_of_neighbours digest pairs =
    fold digest_with
    (fold digest_with (fold digest_with (fold (λ sum row. fold digest_with sum row) digest pairs.sets.classes)
    pairs.sets.left) pairs.sets.right)
    pairs.rows
