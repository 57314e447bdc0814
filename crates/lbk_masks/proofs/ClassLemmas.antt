-- The row of a byte, by the bits of its high half.
use Rattle.std.proofs.Common.{◌≡◌, ℕ, ◌+◌, ◌/◌, ◌%◌, ◌<◌, ◌==◌, Bool, true, false, cond, eqb, eqb→eq, List, [], get_or, bit_and, refl, ap, ◌∙◌, arith}
use Rattle.std.proofs.lemmas.Nat.{and_le_r, and_mask}
use Rattle.lbk_masks.specs.Sets.{chosen, class_in, picked}
use Rattle.lbk_masks.proofs.EveryLemmas.{every}

-- the high half of a byte but for its highest bit, as its bits tell it
abbrev high_by : Bool → Bool → Bool → ℕ
high_by a b c = cond a 0 4 + (cond b 0 2 + cond c 0 1)

abbrev high_of : ℕ → ℕ
high_of byte = high_by (bit_and byte 64 == 0) (bit_and byte 32 == 0) (bit_and byte 16 == 0)

high-is : (byte : ℕ) → byte < 256 → high_of byte ≡ byte / 16 % 8
high-is byte h = eqb→eq _ _ (every (λ j. eqb (high_of j) (j / 16 % 8)) 256 tt byte h)

-- the row that the bits choose
by-bits : (rows : List (List ℕ)) (byte : ℕ) → (a b c : Bool)
    → cond a
    (cond b (cond c (picked (get_or rows 0 []) byte) (picked (get_or rows 1 []) byte)) (cond c (picked (get_or rows 2 []) byte) (picked (get_or rows 3 []) byte)))
    (cond b (cond c (picked (get_or rows 4 []) byte) (picked (get_or rows 5 []) byte)) (cond c (picked (get_or rows 6 []) byte) (picked (get_or rows 7 []) byte)))
    ≡ picked (get_or rows (high_by a b c) []) byte
by-bits rows byte true true true = refl
by-bits rows byte true true false = refl
by-bits rows byte true false true = refl
by-bits rows byte true false false = refl
by-bits rows byte false true true = refl
by-bits rows byte false true false = refl
by-bits rows byte false false true = refl
by-bits rows byte false false false = refl

pub halves-by-bits : (rows : List (List ℕ)) (byte : ℕ) → byte < 256
    → chosen 64
    (chosen 32 (chosen 16 (picked (get_or rows 0 []) byte) (picked (get_or rows 1 []) byte) byte) (chosen 16 (picked (get_or rows 2 []) byte) (picked (get_or rows 3 []) byte) byte) byte)
    (chosen 32 (chosen 16 (picked (get_or rows 4 []) byte) (picked (get_or rows 5 []) byte) byte) (chosen 16 (picked (get_or rows 6 []) byte) (picked (get_or rows 7 []) byte) byte) byte)
    byte
    ≡ picked (get_or rows (byte / 16 % 8) []) byte
halves-by-bits rows byte below =
    by-bits rows byte (bit_and byte 64 == 0) (bit_and byte 32 == 0) (bit_and byte 16 == 0)
    ∙ ap (λ n. picked (get_or rows n []) byte) (high-is byte below)

-- the low half of a choice is the choice of the low halves
pub low-chosen : (halves byte : ℕ) → chosen 128 (bit_and halves 15) (bit_and (halves / 16) 15) byte ≡ bit_and (chosen 128 halves (halves / 16) byte) 15
low-chosen halves byte = by (bit_and byte 128 == 0)
  where
    by : (b : Bool) → cond b (bit_and halves 15) (bit_and (halves / 16) 15) ≡ bit_and (cond b halves (halves / 16)) 15
    by true = refl
    by false = refl

-- a row has the same at a number and at its low half
pub picked-low : (row : List ℕ) (n : ℕ) → picked row (bit_and n 15) ≡ picked row n
picked-low row n = ap (λ k. get_or row k 0) (and_mask (bit_and n 15) 4 ∙ (let e : bit_and n 15 % 16 ≡ bit_and n 15 = omega (arith, and_le_r n 15) in e))

-- what a row has at the class of a lane
pub set-of : (row : List ℕ) (rows : List (List ℕ)) {class lane byte : ℕ} → class ≡ bit_and (class_in rows lane) 15 → lane ≡ byte → picked row class ≡ picked row (class_in rows byte)
set-of row rows {class} {lane} {byte} is same = ap (picked row) is ∙ picked-low row (class_in rows lane) ∙ ap (λ b. picked row (class_in rows b)) same
