-- Bits of numbers of 64 bits, by name of what they are made by.
use Rattle.std.proofs.Common.{◌≡◌, ℕ, zero, suc, ◌+◌, ◌-◌, ◌*◌, ◌/◌, ◌%◌, ◌^◌, ◌==◌, ◌<◌, ◌&&◌, ◌||◌, min, max, ◌≤◌, Bool, true, false, leb, ltb, not, cond, List, length, map, get_or, bit_and, refl, sym, ap, ◌∙◌, ⊎_elim, arith, w64}
use Rattle.std.specs.Int.{bit_at, bit_not}
use Rattle.std.specs.Int.Bits.{bit_or}
use Rattle.std.proofs.lemmas.Bool.{and_left, cases_lt, le-leb, le-ltb, lt-leb, lt-ltb}
use Rattle.std.proofs.lemmas.List.{get_or-map, get_or_past, length-map}
use Rattle.std.proofs.lemmas.Nat.{pow_pos}
use Rattle.std.proofs.lemmas.Nat.Bits.{bit_at-lt, bit_at-suc, bit_at_above, bit_at_and, bit_at_cat_high, bit_at_cat_low, bit_at_not, bit_at_or, bit_at-zero}
use Rattle.std.proofs.lemmas.Simd.{bit_mask_l}
use lib.Lanes.{mask_l}
use Rattle.lbk_masks.specs.Sets.{is_set}

back : (b : Bool) → (cond b 1 0 == 1) ≡ b
back true = refl
back false = refl

pub set-mask : (ms : List Bool) (i : ℕ) → is_set (mask_l ms) i ≡ get_or ms i false
set-mask ms i = ap (λ x. x == 1) (bit_mask_l ms i) ∙ back (get_or ms i false)

-- what is so of a lane, and of no other
pub get_or-lanes : (is : ℕ → Bool) (v : List ℕ) (n i : ℕ) → length v ≡ n → get_or (map is v) i false ≡ (ltb i n && is (get_or v i 0))
get_or-lanes is v n i long =
    ⊎_elim
    (λ (less : i < n). get_or-map is v i 0 false (omega arith) ∙ sym (ap (λ b. b && is (get_or v i 0)) (lt-ltb i n less)))
    (λ (least : n ≤ i). get_or_past (map is v) i false (omega (arith, length-map v is)) ∙ sym (ap (λ b. b && is (get_or v i 0)) (le-ltb i n least)))
    (cases_lt i n)

-- no bit of 0 is set
pub set-none : (i : ℕ) → is_set 0 i ≡ false
set-none i = ap (λ n. n == 1) (bit_at-zero i)

-- what is so of each two bits is so of two numbers below 2
pub of-bits : (Is : ℕ → ℕ → Type 0) → Is 0 0 → Is 0 1 → Is 1 0 → Is 1 1 → (m n : ℕ) → m < 2 → n < 2 → Is m n
of-bits Is a b c d zero zero l r = a
of-bits Is a b c d zero (suc zero) l r = b
of-bits Is a b c d (suc zero) zero l r = c
of-bits Is a b c d (suc zero) (suc zero) l r = d
of-bits Is a b c d (suc (suc m)) n l r = absurd (omega (arith, l))
of-bits Is a b c d zero (suc (suc n)) l r = absurd (omega (arith, r))
of-bits Is a b c d (suc zero) (suc (suc n)) l r = absurd (omega (arith, r))

least-one : (m n : ℕ) → m < 2 → n < 2 → (min m n == 1) ≡ ((m == 1) && (n == 1))
least-one = of-bits (λ m n. (min m n == 1) ≡ ((m == 1) && (n == 1))) refl refl refl refl

most-one : (m n : ℕ) → m < 2 → n < 2 → (max m n == 1) ≡ ((m == 1) || (n == 1))
most-one = of-bits (λ m n. (max m n == 1) ≡ ((m == 1) || (n == 1))) refl refl refl refl

other-one : (n : ℕ) → n < 2 → (1 - n == 1) ≡ not (n == 1)
other-one zero l = refl
other-one (suc zero) l = refl
other-one (suc (suc n)) l = absurd (omega (arith, l))

pub set-and : (a b i : ℕ) → is_set (bit_and a b) i ≡ (is_set a i && is_set b i)
set-and a b i = ap (λ n. n == 1) (bit_at_and a b i) ∙ least-one (bit_at a i) (bit_at b i) (bit_at-lt a i) (bit_at-lt b i)

pub set-or : (a b i : ℕ) → is_set (bit_or a b) i ≡ (is_set a i || is_set b i)
set-or a b i = ap (λ n. n == 1) (bit_at_or a b i) ∙ most-one (bit_at a i) (bit_at b i) (bit_at-lt a i) (bit_at-lt b i)

pub set-not : (n i : ℕ) → n < 2 ^ 64 → i < 64 → is_set (bit_not w64 n) i ≡ not (is_set n i)
set-not n i fits few = ap (λ b. b == 1) (bit_at_not w64 n i fits few) ∙ other-one (bit_at n i) (bit_at-lt n i)

-- a place down
pub set-down : (n i : ℕ) → is_set (n / 2 ^ 1) i ≡ is_set n (suc i)
set-down n i = ap (λ b. b == 1) (sym (bit_at-suc n i))

-- no bit is set past the last
pub set-past : (n : ℕ) → n < 2 ^ 64 → is_set n 64 ≡ false
set-past n fits = ap (λ b. b == 1) (bit_at_above n 64 64 fits (omega arith))

-- a place up
cut : (n i : ℕ) → i < 64 → bit_at (n % 2 ^ 64) i ≡ bit_at n i
cut n i few =
    sym (bit_at_cat_low (n / 2 ^ 64) 64 (n % 2 ^ 64) i few) ∙ ap (λ m. bit_at m i) (let e : n / 2 ^ 64 * 2 ^ 64 + n % 2 ^ 64 ≡ n = omega arith in e)

pub set-up-first : (n : ℕ) → is_set (n * 2 ^ 1 % 2 ^ 64) 0 ≡ false
set-up-first n = ap (λ b. b == 1) (let e : bit_at (n * 2 ^ 1 % 2 ^ 64) 0 ≡ 0 = omega arith in e)

pub set-up : (n i : ℕ) → suc i < 64 → is_set (n * 2 ^ 1 % 2 ^ 64) (suc i) ≡ is_set n i
set-up n i few =
    ap (λ b. b == 1)
    (cut (n * 2 ^ 1) (suc i) few ∙ bit_at-suc (n * 2 ^ 1) i ∙ ap (λ m. bit_at m i) (let e : n * 2 ^ 1 / 2 ≡ n = omega arith in e))

-- up by some places
pub set-raised : (n s i : ℕ) → i < 64 → is_set (n * 2 ^ s % 2 ^ 64) i ≡ (leb s i && is_set n (i - s))
set-raised n s i few =
    let whole : n * 2 ^ s + 0 ≡ n * 2 ^ s = omega arith in
    ap (λ b. b == 1) (cut (n * 2 ^ s) i few ∙ ap (λ m. bit_at m i) (sym whole))
    ∙ ⊎_elim
    (λ (before : i < s).
    ap (λ b. b == 1) (bit_at_cat_low n s 0 i before ∙ bit_at-zero i) ∙ sym (and_left (leb s i) (is_set n (i - s)) (lt-leb s i before)))
    (λ (after : s ≤ i).
    ap (λ b. b == 1) (bit_at_cat_high n s 0 i (pow_pos s) after) ∙ ap (λ b. b && is_set n (i - s)) (sym (le-leb s i after)))
    (cases_lt i s)
