-- A scalar and the mark after it, written at once.
use Rattle.std.proofs.Common.{◌≡◌, ℕ, ◌+◌, ◌/◌, ◌%◌, ◌<◌, ◌≤◌, ltb, List, [], ◌∷◌, ◌++◌, get_or, length, take, refl, sym, ap, ap₂, ◌∙◌, arith}
use Rattle.std.proofs.Math.Seq.{take-append-add}
use Rattle.std.proofs.lemmas.Bool.{cond-true, cond-false, lt-ltb, le-ltb}
use Rattle.std.proofs.lemmas.List.{take-append-le}
use Rattle.lbk_notation.specs.Grammar.{digit_byte, token_bytes}
use Rattle.lbk_notation.specs.Written.{token}

two : (bytes : List ℕ) → length bytes ≡ 2 → get_or bytes 0 0 ∷ get_or bytes 1 0 ∷ [] ≡ bytes
two [] e = absurd (omega (arith, e))
two (a ∷ []) e = absurd (omega (arith, e))
two (a ∷ b ∷ []) e = refl
two (a ∷ b ∷ c ∷ more) e = absurd (omega (arith, e))

-- some bytes, and the first of a mark's behind them
pub with_sign : (front sign more : List ℕ) (n : ℕ) → length sign ≡ 2 → n ≤ 2
    → take (length front + n) (front ++ (get_or sign 0 0 ∷ get_or sign 1 0 ∷ more)) ≡ front ++ take n sign
with_sign front sign more n e few =
    take-append-add front (get_or sign 0 0 ∷ get_or sign 1 0 ∷ more) n
    ∙ ap (λ l. front ++ take n (l ++ more)) (two sign e)
    ∙ ap (λ l. front ++ l) (take-append-le n sign more (omega (arith, e, few)))

-- the last four digits of a number
abbrev pub last_four : ℕ → List ℕ
last_four code = digit_byte (code / 0x1000 % 16) ∷ digit_byte (code / 0x100 % 16) ∷ digit_byte (code / 0x10 % 16) ∷ digit_byte (code % 16) ∷ []

-- the two digits before them
abbrev pub before_four : ℕ → List ℕ
before_four code = digit_byte (code / 0x10000 / 16) ∷ digit_byte (code / 0x10000 % 16) ∷ []

four : (code : ℕ) → code < 0x10000 → last_four code ≡ token code
four code small =
    let first : code / 0x1000 % 16 ≡ code / 4096 = omega arith in
    ap (λ d. token_bytes (d ∷ code / 256 % 16 ∷ code / 16 % 16 ∷ code % 16 ∷ [])) first
    ∙ ap token_bytes (sym (cond-true (ltb code 0x10000) (code / 4096 ∷ code / 256 % 16 ∷ code / 16 % 16 ∷ code % 16 ∷ []) _ (lt-ltb code 0x10000 small)))

five : (code : ℕ) → 0x10000 ≤ code → code < 0x100000 → digit_byte (code / 0x10000 % 16) ∷ last_four code ≡ token code
five code large small =
    let first : code / 0x10000 % 16 ≡ code / 65536 = omega arith in
    ap (λ d. token_bytes (d ∷ code / 4096 % 16 ∷ code / 256 % 16 ∷ code / 16 % 16 ∷ code % 16 ∷ [])) first
    ∙ ap token_bytes (sym (cond-false (ltb code 0x10000) _ _ (le-ltb code 0x10000 large) ∙ cond-true (ltb code 0x100000) _ _ (lt-ltb code 0x100000 small)))

six : (code : ℕ) → 0x100000 ≤ code → before_four code ++ last_four code ≡ token code
six code large =
    let first : code / 0x10000 / 16 ≡ code / 1048576 = omega arith in
    ap (λ d. token_bytes (d ∷ code / 65536 % 16 ∷ code / 4096 % 16 ∷ code / 256 % 16 ∷ code / 16 % 16 ∷ code % 16 ∷ [])) first
    ∙ ap token_bytes (sym (cond-false (ltb code 0x10000) _ _ (le-ltb code 0x10000 (omega arith)) ∙ cond-false (ltb code 0x100000) _ _ (le-ltb code 0x100000 large)))

-- the same, read of arrays that have them
pub token_four : (code : ℕ) (d : List ℕ) → code < 0x10000 → d ≡ last_four code
    → get_or d 0 0 ∷ get_or d 1 0 ∷ get_or d 2 0 ∷ get_or d 3 0 ∷ [] ≡ token code
token_four code d small is = ap (λ l. get_or l 0 0 ∷ get_or l 1 0 ∷ get_or l 2 0 ∷ get_or l 3 0 ∷ []) is ∙ four code small

pub token_five : (code : ℕ) (d e : List ℕ) → 0x10000 ≤ code → code < 0x100000 → d ≡ last_four code → e ≡ before_four code
    → get_or e 1 0 ∷ get_or d 0 0 ∷ get_or d 1 0 ∷ get_or d 2 0 ∷ get_or d 3 0 ∷ [] ≡ token code
token_five code d e large small is before =
    ap₂ (λ l m. get_or m 1 0 ∷ get_or l 0 0 ∷ get_or l 1 0 ∷ get_or l 2 0 ∷ get_or l 3 0 ∷ []) is before ∙ five code large small

pub token_six : (code : ℕ) (d e : List ℕ) → 0x100000 ≤ code → d ≡ last_four code → e ≡ before_four code
    → get_or e 0 0 ∷ get_or e 1 0 ∷ get_or d 0 0 ∷ get_or d 1 0 ∷ get_or d 2 0 ∷ get_or d 3 0 ∷ [] ≡ token code
token_six code d e large is before =
    ap₂ (λ l m. get_or m 0 0 ∷ get_or m 1 0 ∷ get_or l 0 0 ∷ get_or l 1 0 ∷ get_or l 2 0 ∷ get_or l 3 0 ∷ []) is before ∙ six code large
