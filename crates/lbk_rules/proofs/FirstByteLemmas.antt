-- The first bytes of scalars, and what holds of none.
use Rattle.std.proofs.Common.{◌≡◌, ℕ, ◌+◌, ◌/◌, ◌<◌, ◌≤◌, ◌⊎◌, Bool, false, get_or, inl, inr, sym, ◌∙◌, arith}
use Rattle.std.proofs.Math.ListN.{replicate}
use Rattle.std.proofs.Math.Utf8.{encode}
use Rattle.std.proofs.lemmas.Bool.{cases_lt, false≢true, le-ltb, lt-ltb}
use Rattle.std.proofs.lemmas.List.{get_or-replicate, get_or_past, length-replicate}
use Rattle.lbk_uax14.specs.declared.cells.Cell.{Cell}
use Rattle.lbk_rules.specs.FirstBytes.{NoneFail, first_byte}

-- the first byte of a code, by how many bytes it takes
pub first-of-one : (code : ℕ) → code < 128 → first_byte code ≡ code
unfolding encode
first-of-one code low = rw (lt-ltb code 128 low)

pub first-of-two : (code : ℕ) → 128 ≤ code → code < 2048 → first_byte code ≡ 192 + code / 64
unfolding encode
first-of-two code high low = rw (le-ltb code 128 high, lt-ltb code 2048 low)

pub first-of-three : (code : ℕ) → 2048 ≤ code → code < 65536 → first_byte code ≡ 224 + code / 4096
unfolding encode
first-of-three code high low = rw (le-ltb code 128 (omega (arith, high)), le-ltb code 2048 high, lt-ltb code 65536 low)

pub first-of-four : (code : ℕ) → 65536 ≤ code → first_byte code ≡ 240 + code / 262144
unfolding encode
first-of-four code high = rw (le-ltb code 128 (omega (arith, high)), le-ltb code 2048 (omega (arith, high)), le-ltb code 65536 high)

-- codes in order have first bytes in order
pub first-in-order : (a b : ℕ) → a ≤ b → first_byte a ≤ first_byte b
first-in-order a b order = go (width a) (width b)
  where
    Width : ℕ → Type 0
    Width code = ((code < 128) × (first_byte code ≡ code)) ⊎ (((128 ≤ code) × (code < 2048) × (first_byte code ≡ 192 + code / 64))
        ⊎ (((2048 ≤ code) × (code < 65536) × (first_byte code ≡ 224 + code / 4096)) ⊎ ((65536 ≤ code) × (first_byte code ≡ 240 + code / 262144))))

    width : (code : ℕ) → Width code
    width code = elim (cases_lt code 128) [
      | inl one ↦ inl (one, first-of-one code one)
      | inr above ↦ elim (cases_lt code 2048) [
        | inl two ↦ inr (inl (above, two, first-of-two code above two))
        | inr beyond ↦ elim (cases_lt code 65536) [
          | inl three ↦ inr (inr (inl (beyond, three, first-of-three code beyond three)))
          | inr four ↦ inr (inr (inr (four, first-of-four code four)))
        ]
      ]
    ]

    go : Width a → Width b → first_byte a ≤ first_byte b
    go (inl x) (inl y) = omega (arith, order, x.0, x.1, y.0, y.1)
    go (inl x) (inr (inl y)) = omega (arith, x.0, x.1, y.2)
    go (inl x) (inr (inr (inl y))) = omega (arith, x.0, x.1, y.2)
    go (inl x) (inr (inr (inr y))) = omega (arith, x.0, x.1, y.1)
    go (inr (inl x)) (inl y) = omega (arith, order, x.0, y.0)
    go (inr (inl x)) (inr (inl y)) = omega (arith, order, x.2, y.2)
    go (inr (inl x)) (inr (inr (inl y))) = omega (arith, x.1, x.2, y.2)
    go (inr (inl x)) (inr (inr (inr y))) = omega (arith, x.1, x.2, y.1)
    go (inr (inr (inl x))) (inl y) = omega (arith, order, x.0, y.0)
    go (inr (inr (inl x))) (inr (inl y)) = omega (arith, order, x.0, y.1)
    go (inr (inr (inl x))) (inr (inr (inl y))) = omega (arith, order, x.2, y.2)
    go (inr (inr (inl x))) (inr (inr (inr y))) = omega (arith, x.1, x.2, y.1)
    go (inr (inr (inr x))) (inl y) = omega (arith, order, x.0, y.0)
    go (inr (inr (inr x))) (inr (inl y)) = omega (arith, order, x.0, y.1)
    go (inr (inr (inr x))) (inr (inr (inl y))) = omega (arith, order, x.0, y.1)
    go (inr (inr (inr x))) (inr (inr (inr y))) = omega (arith, order, x.1, y.1)

-- a code that takes more than one byte begins with none that is a scalar by itself
pub first-high : (code : ℕ) → 128 ≤ code → 128 ≤ first_byte code
first-high code high = omega (arith, high, first-of-one 127 (omega arith), first-in-order 128 code high, first-of-two 128 (omega arith) (omega arith))

-- of no first byte is anything known
pub none-known : (fails : Cell → Bool) (cell : ℕ → Cell) → NoneFail fails cell (replicate 256 false)
none-known fails cell = λ code scalar on. absurd (false≢true (sym (none 256 (first_byte code)) ∙ on))
  where
    none : (count byte : ℕ) → get_or (replicate count false) byte false ≡ false
    none count byte = elim (cases_lt byte count) [
      | inl below ↦ get_or-replicate count byte false false below
      | inr past ↦ get_or_past (replicate count false) byte false (omega (arith, length-replicate count false))
    ]
