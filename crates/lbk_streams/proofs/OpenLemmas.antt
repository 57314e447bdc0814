-- Bytes that more bytes can make a scalar of.
use Rattle.std.proofs.Common.{◌≡◌, ℕ, ◌==◌, ◌<◌, ◌≤◌, true, cond, List, [], ◌∷◌, length, refl, ⊎_elim, arith}
use Rattle.std.proofs.lemmas.Bool.{and_parts, cases_lt, ltb-true}
use Rattle.std.proofs.lemmas.Bool.Decides.{nat_tests}
use Rattle.bstr.specs.Utf8.{code_of_2, code_of_3, code_of_4, lead_len, second}
use Rattle.bstr.proofs.lemmas.PieceLemmas.{value-6, value-9, value-12}
use Rattle.lbk_bytes.specs.Open.{IsCut, could_go_on}

lead-two : (b : ℕ) → 1 < lead_len b → (0xC2 ≤ b) × (b ≤ 0xF4)
lead-two b leads = (grind (arith, nat_tests), grind (arith, nat_tests))

lead-three : (b : ℕ) → 2 < lead_len b → (0xE0 ≤ b) × (b ≤ 0xF4)
lead-three b leads = (grind (arith, nat_tests), grind (arith, nat_tests))

lead-four : (b : ℕ) → 3 < lead_len b → (0xF0 ≤ b) × (b ≤ 0xF4)
lead-four b leads = (grind (arith, nat_tests), grind (arith, nat_tests))

lead-five : (b : ℕ) → 4 < lead_len b → ⊥
lead-five b leads = grind (arith, nat_tests)

-- a byte that may stand second
abbrev next_of : ℕ → ℕ
next_of b = cond (b == 0xE0) 0xA0 (cond (b == 0xF0) 0x90 0x80)

next-second : (b : ℕ) → second b (next_of b) ≡ true
next-second b = grind (arith, nat_tests)

-- with the other bytes of three or four
ends-two : (b c : ℕ) → 2 < lead_len b → second b c ≡ true → IsCut (b ∷ c ∷ [])
ends-two b c leads sec =
    let range = lead-three b leads in
    ⊎_elim
    (λ (three : b < 0xF0).
    (0x80 ∷ [], code_of_3 b c 0x80, omega arith, value-9 3 b c 0x80 0 (omega arith, range.0, three, sec, refl)))
    (λ (four : 0xF0 ≤ b).
    (0x80 ∷ 0x80 ∷ [], code_of_4 b c 0x80 0x80, omega arith, value-12 4 b c 0x80 0x80 (omega arith, four, range.1, sec, refl, refl)))
    (cases_lt b 0xF0)

ends-one : (b : ℕ) → 1 < lead_len b → IsCut (b ∷ [])
ends-one b leads =
    let range = lead-two b leads in
    let c = next_of b in
    let sec = next-second b in
    ⊎_elim
    (λ (two : b < 0xE0). (c ∷ [], code_of_2 b c, omega arith, value-6 2 b c 0 0 (omega arith, range.0, two, sec)))
    (λ (more : 0xE0 ≤ b).
    ⊎_elim
    (λ (three : b < 0xF0).
    (c ∷ 0x80 ∷ [], code_of_3 b c 0x80, omega arith, value-9 3 b c 0x80 0 (omega arith, more, three, sec, refl)))
    (λ (four : 0xF0 ≤ b).
    (c ∷ 0x80 ∷ 0x80 ∷ [], code_of_4 b c 0x80 0x80, omega arith, value-12 4 b c 0x80 0x80 (omega arith, four, range.1, sec, refl, refl)))
    (cases_lt b 0xF0))
    (cases_lt b 0xE0)

pub goes-whole : (bs : List ℕ) → could_go_on bs ≡ true → IsCut bs
goes-whole [] goes = (0x61 ∷ [], 0x61, omega arith, refl)
goes-whole (b ∷ []) goes = ends-one b (ltb-true 1 (lead_len b) (and_parts _ _ goes).0)
goes-whole (b ∷ c ∷ []) goes =
    ends-two b c (ltb-true 2 (lead_len b) (and_parts _ _ goes).0) (and_parts _ _ (and_parts _ _ goes).1).0
goes-whole (b ∷ c ∷ d ∷ []) goes =
    let range = lead-four b (ltb-true 3 (lead_len b) (and_parts _ _ goes).0) in
    let rest = and_parts _ _ (and_parts _ _ goes).1 in
    (0x80 ∷ [], code_of_4 b c d 0x80, omega arith, value-12 4 b c d 0x80 (omega arith, range.0, range.1, rest.0, rest.1, refl))
goes-whole (b ∷ c ∷ d ∷ e ∷ bs) goes =
    absurd (lead-five b (let many = ltb-true (length (b ∷ c ∷ d ∷ e ∷ bs)) (lead_len b) (and_parts _ _ goes).0 in omega arith))
