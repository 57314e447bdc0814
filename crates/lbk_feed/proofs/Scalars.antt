-- The bytes of a scalar by their number, and which bytes spell one.
use Rattle.std.proofs.Common.{◌≡◌, ◌⊎◌, ℕ, ◌+◌, ◌-◌, ◌*◌, ◌/◌, ◌%◌, ◌<◌, ◌≤◌, true, List, [], ◌∷◌, sym, ◌∙◌, arith, inl, inr, subst, ⊎_elim}
use Rattle.std.specs.Char.{IsScalar, encode_utf8}
use Rattle.std.specs.Int.{is_in_range}
use Rattle.std.specs.Str.Lossy.{second_byte_min, second_byte_max}
use Rattle.std.proofs.lemmas.Bool.{cases_lt}
use Rattle.std.proofs.lemmas.Bool.Decides.{nat_tests}

encode_one : (c : ℕ) → c < 128 → encode_utf8 c ≡ c ∷ []
unfolding encode_utf8
encode_one c low = grind (arith, nat_tests)

encode_two : (c : ℕ) → 128 ≤ c → c < 2048 → encode_utf8 c ≡ (192 + c / 64) ∷ (128 + c % 64) ∷ []
unfolding encode_utf8
encode_two c high low = grind (arith, nat_tests)

encode_three : (c : ℕ) → 2048 ≤ c → c < 65536 → encode_utf8 c ≡ (224 + c / 4096) ∷ (128 + c / 64 % 64) ∷ (128 + c % 64) ∷ []
unfolding encode_utf8
encode_three c high low = grind (arith, nat_tests)

encode_four : (c : ℕ) → 65536 ≤ c → encode_utf8 c ≡ (240 + c / 262144) ∷ (128 + c / 4096 % 64) ∷ (128 + c / 64 % 64) ∷ (128 + c % 64) ∷ []
unfolding encode_utf8
encode_four c high = grind (arith, nat_tests)

low_scalar : (c : ℕ) → c < 55296 → IsScalar c
low_scalar c low = grind (arith, nat_tests)

high_scalar : (c : ℕ) → 57344 ≤ c → c < 1114112 → IsScalar c
high_scalar c high low = grind (arith, nat_tests)

scalar_says : (c : ℕ) → IsScalar c → (c < 55296) ⊎ ((57344 ≤ c) × (c < 1114112))
scalar_says c is = grind (arith, nat_tests)

-- y may follow the first byte x
pub record MayFollow (x y : ℕ) : Type 0 where
  pub low : 0x80 ≤ y
  pub high : y ≤ 0xBF
  pub after_E0 : x ≡ 0xE0 → 0xA0 ≤ y
  pub after_ED : x ≡ 0xED → y ≤ 0x9F
  pub after_F0 : x ≡ 0xF0 → 0x90 ≤ y
  pub after_F4 : x ≡ 0xF4 → y ≤ 0x8F

pub MayFollow-tested : (x y : ℕ) → is_in_range (second_byte_min x) (second_byte_max x) y ≡ true → MayFollow x y
MayFollow-tested x y passes = record {
  low = grind (arith, nat_tests);
  high = grind (arith, nat_tests);
  after_E0 = λ is. grind (arith, nat_tests);
  after_ED = λ is. grind (arith, nat_tests);
  after_F0 = λ is. grind (arith, nat_tests);
  after_F4 = λ is. grind (arith, nat_tests);
}

pub MayFollow-passes : (x y : ℕ) → MayFollow x y → is_in_range (second_byte_min x) (second_byte_max x) y ≡ true
MayFollow-passes x y may = grind (arith, nat_tests, may.low, may.high, may.after_E0, may.after_ED, may.after_F0, may.after_F4)

-- the bytes are those of one scalar
pub record IsSpelt (bs : List ℕ) : Type 0 where
  pub scalar : ℕ
  pub is_scalar : IsScalar scalar
  pub spells : bs ≡ encode_utf8 scalar

pub spelt_two : (x y : ℕ) → 0xC2 ≤ x → x ≤ 0xDF → 0x80 ≤ y → y ≤ 0xBF → IsSpelt (x ∷ y ∷ [])
spelt_two x y from to low high =
    let c = (x - 192) * 64 + (y - 128) in
    let first : x ≡ 192 + c / 64 = omega arith in
    let second : y ≡ 128 + c % 64 = omega arith in
    record {
      scalar = c;
      is_scalar = low_scalar c (omega arith);
      spells = (λ i. first i ∷ second i ∷ []) ∙ sym (encode_two c (omega arith) (omega arith));
    }

pub spelt_three : (x y z : ℕ) → 0xE0 ≤ x → x ≤ 0xEF → MayFollow x y → 0x80 ≤ z → z ≤ 0xBF → IsSpelt (x ∷ y ∷ z ∷ [])
spelt_three x y z from to may low high =
    let y_low = may.low in
    let y_high = may.high in
    let c = (x - 224) * 4096 + (y - 128) * 64 + (z - 128) in
    let first : x ≡ 224 + c / 4096 = omega arith in
    let second : y ≡ 128 + c / 64 % 64 = omega arith in
    let third : z ≡ 128 + c % 64 = omega arith in
    let long : 2048 ≤ c = ⊎_elim
    (λ (is : x ≡ 0xE0). omega (arith, may.after_E0 is))
    (λ (above : 0xE0 < x). omega arith)
    (let cases : (x ≡ 0xE0) ⊎ (0xE0 < x) = grind arith in cases) in
    let scalar : IsScalar c = ⊎_elim
    (λ (below : x < 0xED). low_scalar c (omega arith))
    (λ (rest : (x ≡ 0xED) ⊎ (0xED < x)). ⊎_elim
    (λ (is : x ≡ 0xED). low_scalar c (omega (arith, may.after_ED is)))
    (λ (above : 0xED < x). high_scalar c (omega arith) (omega arith))
    rest)
    (let cases : (x < 0xED) ⊎ ((x ≡ 0xED) ⊎ (0xED < x)) = grind arith in cases) in
    record {
      scalar = c;
      is_scalar = scalar;
      spells = (λ i. first i ∷ second i ∷ third i ∷ []) ∙ sym (encode_three c long (omega arith));
    }

pub spelt_four : (x y z w : ℕ) → 0xF0 ≤ x → x ≤ 0xF4 → MayFollow x y → 0x80 ≤ z → z ≤ 0xBF → 0x80 ≤ w → w ≤ 0xBF
    → IsSpelt (x ∷ y ∷ z ∷ w ∷ [])
spelt_four x y z w from to may low high last_low last_high =
    let y_low = may.low in
    let y_high = may.high in
    let c = (x - 240) * 262144 + (y - 128) * 4096 + (z - 128) * 64 + (w - 128) in
    let first : x ≡ 240 + c / 262144 = omega arith in
    let above : c / 64 ≡ (x - 240) * 4096 + (y - 128) * 64 + (z - 128) = omega arith in
    let second : y ≡ 128 + c / 4096 % 64 = omega arith in
    let third : z ≡ 128 + c / 64 % 64 = subst (λ m. z ≡ 128 + m % 64) (sym above) (omega arith) in
    let fourth : w ≡ 128 + c % 64 = omega arith in
    let long : 65536 ≤ c = ⊎_elim
    (λ (is : x ≡ 0xF0). omega (arith, may.after_F0 is))
    (λ (more : 0xF0 < x). omega arith)
    (let cases : (x ≡ 0xF0) ⊎ (0xF0 < x) = grind arith in cases) in
    let small : c < 1114112 = ⊎_elim
    (λ (is : x ≡ 0xF4). omega (arith, may.after_F4 is))
    (λ (less : x < 0xF4). omega arith)
    (let cases : (x ≡ 0xF4) ⊎ (x < 0xF4) = grind arith in cases) in
    record {
      scalar = c;
      is_scalar = high_scalar c (omega arith) small;
      spells = (λ i. first i ∷ second i ∷ third i ∷ fourth i ∷ []) ∙ sym (encode_four c long);
    }

-- the bytes of a scalar, and which they can be
pub data Spelling (c : ℕ) : Type 0 where
  spells_one : encode_utf8 c ≡ c ∷ [] → Spelling c
  spells_two : (x y : ℕ) → 0xC2 ≤ x → x ≤ 0xDF → 0x80 ≤ y → y ≤ 0xBF → encode_utf8 c ≡ x ∷ y ∷ [] → Spelling c
  spells_three : (x y z : ℕ) → 0xE0 ≤ x → x ≤ 0xEF → MayFollow x y → 0x80 ≤ z → z ≤ 0xBF → encode_utf8 c ≡ x ∷ y ∷ z ∷ [] → Spelling c
  spells_four : (x y z w : ℕ) → 0xF0 ≤ x → x ≤ 0xF4 → MayFollow x y → 0x80 ≤ z → z ≤ 0xBF → 0x80 ≤ w → w ≤ 0xBF
      → encode_utf8 c ≡ x ∷ y ∷ z ∷ w ∷ [] → Spelling c

pub spelling : (c : ℕ) → IsScalar c → Spelling c
spelling c is = by (cases_lt c 128) (cases_lt c 2048) (cases_lt c 65536) (scalar_says c is)
  where
    by : (c < 128) ⊎ (128 ≤ c) → (c < 2048) ⊎ (2048 ≤ c) → (c < 65536) ⊎ (65536 ≤ c) → (c < 55296) ⊎ ((57344 ≤ c) × (c < 1114112)) → Spelling c
    by (inl low) _ _ _ = spells_one (encode_one c low)
    by (inr high) (inl low) _ _ = spells_two (192 + c / 64) (128 + c % 64) (omega arith) (omega arith) (omega arith) (omega arith) (encode_two c high low)
    by (inr _) (inr high) (inl low) (inl below) = spells_three (224 + c / 4096) (128 + c / 64 % 64) (128 + c % 64) (omega arith) (omega arith)
        (record { low = omega arith; high = omega arith; after_E0 = λ e. omega arith; after_ED = λ e. omega arith; after_F0 = λ e. omega arith; after_F4 = λ e. omega arith })
        (omega arith) (omega arith) (encode_three c high low)
    by (inr _) (inr high) (inl low) (inr above) = spells_three (224 + c / 4096) (128 + c / 64 % 64) (128 + c % 64) (omega arith) (omega arith)
        (record { low = omega arith; high = omega arith; after_E0 = λ e. omega arith; after_ED = λ e. omega arith; after_F0 = λ e. omega arith; after_F4 = λ e. omega arith })
        (omega arith) (omega arith) (encode_three c high low)
    by (inr _) (inr _) (inr high) (inl below) = absurd (omega arith)
    by (inr _) (inr _) (inr high) (inr above) = spells_four (240 + c / 262144) (128 + c / 4096 % 64) (128 + c / 64 % 64) (128 + c % 64) (omega arith) (omega arith)
        (record { low = omega arith; high = omega arith; after_E0 = λ e. omega arith; after_ED = λ e. omega arith; after_F0 = λ e. omega arith; after_F4 = λ e. omega arith })
        (omega arith) (omega arith) (omega arith) (omega arith) (encode_four c high)
