-- Sets of bytes, and where those of neighbours meet.
use Rattle.std.specs.Prelude.{◌≡◌, ℕ, zero, suc, ◌<◌, ◌/◌, ◌%◌, ◌==◌, List, [], Bool, not, get_or, bit_and}
use Rattle.std.specs.Prelude.{if◌then◌else◌}
use Rattle.std.specs.Int.{bit_at}
use Rattle.lbk_masks.specs.declared.ByteSets.{ByteSets}
use Rattle.lbk_masks.specs.declared.halves.HalfSets.{HalfSets}

-- whether bit i of x is set
abbrev pub is_set : ℕ → ℕ → Bool
is_set x i = bit_at x i == 1

-- the lanes of a vector of 16
abbrev pub HasLanes : List ℕ → (ℕ → ℕ) → Type 0
HasLanes v lane = (i : ℕ) → i < 16 → get_or v i 0 ≡ lane i

-- what a row of sixteen has at the low half of a byte
abbrev pub picked : List ℕ → ℕ → ℕ
picked row byte = get_or row (bit_and byte 15) 0

-- one of two by a bit of a byte: the first where it is not set
abbrev pub chosen : ℕ → ℕ → ℕ → ℕ → ℕ
chosen bit low high byte = if bit_and byte bit == 0 then low else high

-- whether two sets meet
abbrev pub meets : ℕ → ℕ → Bool
meets left right = not (bit_and left right == 0)

-- the class of a byte, in the low half of a number: of what the row of its high half has the low half, or from 128 on
-- the high half
abbrev pub class_in : List (List ℕ) → ℕ → ℕ
class_in rows byte =
    let halves = picked (get_or rows (byte / 16 % 8) []) byte in
    chosen 128 halves (halves / 16) byte

-- the set of a byte on the left of two neighbours, and on the right
abbrev pub left_in : ByteSets → ℕ → ℕ
left_in sets byte = picked sets.left (class_in sets.classes byte)

abbrev pub right_in : ByteSets → ℕ → ℕ
right_in sets byte = picked sets.right (class_in sets.classes byte)

-- the left set of what stands before byte i of a text, where `before` is that of what stands before its first
abbrev pub left_before : ByteSets → ℕ → List ℕ → ℕ → ℕ
left_before sets before text zero = before
left_before sets before text (suc i) = left_in sets (get_or text i 0)

-- the sets that a byte is in, by its halves
abbrev pub sets_in : HalfSets → ℕ → ℕ
sets_in halves byte = bit_and (picked halves.low byte) (picked halves.high (byte / 16))

-- whether it is in one of these
abbrev pub is_in : HalfSets → ℕ → ℕ → Bool
is_in halves sets byte = meets (sets_in halves byte) sets
