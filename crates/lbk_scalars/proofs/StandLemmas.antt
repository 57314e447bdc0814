-- Where scalars stand in well-formed text.
use Rattle.std.proofs.Common.{◌≡◌, ℕ, ◌+◌, ◌-◌, ◌*◌, ◌<◌, ◌≤◌, ◌⊎◌, ◌==◌, Bool, cond, nat_lt, refl, true, false, List, [], ◌∷◌, drop, get_or, length, slice_range, sym, ap, ◌∙◌, arith}
use Rattle.std.specs.Str.{IsUtf8, encode_utf8_all}
use Rattle.std.specs.Char.{encode_utf8}
use Rattle.std.proofs.lemmas.Bool.{and_parts}
use Rattle.std.proofs.lemmas.Bool.Decides.{nat_tests}
use Rattle.std.proofs.lemmas.List.{get_or-drop, length-drop, take_all}
use Rattle.std.proofs.lemmas.Str.{IsUtf8-drop}
use lib.Utf8.{scalars}
use Rattle.bstr.specs.Utf8.{bad, code_of_2, code_of_3, code_of_4, continues, decoded, decoded_by, good, second}
use Rattle.bstr.proofs.lemmas.EncodeLemmas.{decoded-encode}
use Rattle.lbk_scalars.specs.Stands.{StandsFrom}

-- a scalar stands wherever a byte of a text may begin one
pub stands-at : (text : List ℕ) (at : ℕ) → IsUtf8 text → at < length text → 192 ≤ get_or text at 0
    → (code size : ℕ) × (decoded (drop at text) ≡ good code size)
stands-at text at utf8 inside begins =
    let rest = IsUtf8-drop text at utf8 (omega (arith, inside), λ _ _. begins) in
    by rest.0 rest.1.0 rest.1.1
  where
    by : (cs : List ℕ) → scalars cs ≡ true → encode_utf8_all cs ≡ drop at text → (code size : ℕ) × (decoded (drop at text) ≡ good code size)
    by [] all is = absurd (omega (arith, inside, ap length is, length-drop at text))
    by (c ∷ cs) all is =
        (c, length (encode_utf8 c), ap decoded (sym is) ∙ decoded-encode c (encode_utf8_all cs) (and_parts _ _ all).0)

-- a byte that is no less than one that may begin one begins one in what is left of a text
pub stands-rest : (least : ℕ) → 0xC0 ≤ least → (text : List ℕ) (at : ℕ) → IsUtf8 text → at < length text
    → StandsFrom least (slice_range text at (length text))
stands-rest least begins text at utf8 inside led =
    let rest : slice_range text at (length text) ≡ drop at text = take_all _ (drop at text) (omega (arith, length-drop at text)) in
    let first = ap (λ l. get_or l 0 0) rest ∙ get_or-drop at text 0 0 in
    let same : at + 0 ≡ at = omega arith in
    let stands = stands-at text at utf8 inside (omega (arith, begins, led, first, ap (λ n. get_or text n 0) same)) in
    (stands.0, stands.1, ap decoded rest ∙ stands.2)

-- two bytes that decode are a byte of two and one that may follow it
pub shape-two : (n b c d e code : ℕ) → decoded_by n b c d e ≡ good code 2
    → (0xC2 ≤ b) × (b < 0xE0) × (continues c ≡ true)
shape-two n b c d e code is = by (n == 0) (nat_lt b 0x80) (nat_lt b 0xC2) (nat_lt 0xF4 b) (nat_lt n 2) (second b c) (nat_lt b 0xE0)
    (nat_lt n 3) (continues d) (nat_lt b 0xF0) (nat_lt n 4) (continues e) refl refl refl is
  where
    by : (x0 x1 x2 x3 x4 s x5 x6 k x7 x8 l : Bool) → nat_lt b 0xC2 ≡ x2 → nat_lt b 0xE0 ≡ x5 → second b c ≡ s
        → cond x0 (bad 0) (cond x1 (good b 1) (cond x2 (bad 1) (cond x3 (bad 1) (cond x4 (bad 1)
        (cond s (cond x5 (good (code_of_2 b c) 2) (cond x6 (bad 2)
        (cond k (cond x7 (good (code_of_3 b c d) 3) (cond x8 (bad 3) (cond l (good (code_of_4 b c d e) 4) (bad 3)))) (bad 2)))) (bad 1)))))) ≡ good code 2
        → (0xC2 ≤ b) × (b < 0xE0) × (continues c ≡ true)
    by true x1 x2 x3 x4 s x5 x6 k x7 x8 l least most sec is = absurd (grind arith)
    by false true x2 x3 x4 s x5 x6 k x7 x8 l least most sec is = absurd (grind arith)
    by false false true x3 x4 s x5 x6 k x7 x8 l least most sec is = absurd (grind arith)
    by false false false true x4 s x5 x6 k x7 x8 l least most sec is = absurd (grind arith)
    by false false false false true s x5 x6 k x7 x8 l least most sec is = absurd (grind arith)
    by false false false false false false x5 x6 k x7 x8 l least most sec is = absurd (grind arith)
    by false false false false false true false true k x7 x8 l least most sec is = absurd (grind arith)
    by false false false false false true false false false x7 x8 l least most sec is = absurd (grind arith)
    by false false false false false true false false true true x8 l least most sec is = absurd (grind arith)
    by false false false false false true false false true false true l least most sec is = absurd (grind arith)
    by false false false false false true false false true false false true least most sec is = absurd (grind arith)
    by false false false false false true false false true false false false least most sec is = absurd (grind arith)
    by false false false false false true true x6 k x7 x8 l least most sec is =
        (grind (arith, nat_tests, least), grind (arith, nat_tests, most), grind (arith, nat_tests, sec, most))

-- three bytes that decode begin with a byte of three, and each may follow the one before
pub shape-three : (n b c d e code : ℕ) → decoded_by n b c d e ≡ good code 3
    → (0xE0 ≤ b) × (b < 0xF0) × (second b c ≡ true) × (continues d ≡ true)
shape-three n b c d e code is = by (n == 0) (nat_lt b 0x80) (nat_lt b 0xC2) (nat_lt 0xF4 b) (nat_lt n 2) (second b c) (nat_lt b 0xE0)
    (nat_lt n 3) (continues d) (nat_lt b 0xF0) (nat_lt n 4) (continues e) refl refl refl refl is
  where
    by : (x0 x1 x2 x3 x4 s x5 x6 k x7 x8 l : Bool) → nat_lt b 0xE0 ≡ x5 → nat_lt b 0xF0 ≡ x7 → second b c ≡ s → continues d ≡ k
        → cond x0 (bad 0) (cond x1 (good b 1) (cond x2 (bad 1) (cond x3 (bad 1) (cond x4 (bad 1)
        (cond s (cond x5 (good (code_of_2 b c) 2) (cond x6 (bad 2)
        (cond k (cond x7 (good (code_of_3 b c d) 3) (cond x8 (bad 3) (cond l (good (code_of_4 b c d e) 4) (bad 3)))) (bad 2)))) (bad 1)))))) ≡ good code 3
        → (0xE0 ≤ b) × (b < 0xF0) × (second b c ≡ true) × (continues d ≡ true)
    by true x1 x2 x3 x4 s x5 x6 k x7 x8 l least most sec con is = absurd (grind arith)
    by false true x2 x3 x4 s x5 x6 k x7 x8 l least most sec con is = absurd (grind arith)
    by false false true x3 x4 s x5 x6 k x7 x8 l least most sec con is = absurd (grind arith)
    by false false false true x4 s x5 x6 k x7 x8 l least most sec con is = absurd (grind arith)
    by false false false false true s x5 x6 k x7 x8 l least most sec con is = absurd (grind arith)
    by false false false false false false x5 x6 k x7 x8 l least most sec con is = absurd (grind arith)
    by false false false false false true true x6 k x7 x8 l least most sec con is = absurd (grind arith)
    by false false false false false true false true k x7 x8 l least most sec con is = absurd (grind arith)
    by false false false false false true false false false x7 x8 l least most sec con is = absurd (grind arith)
    by false false false false false true false false true false x8 l least most sec con is = absurd (grind arith)
    by false false false false false true false false true true x8 l least most sec con is =
        (grind (arith, nat_tests, least), grind (arith, nat_tests, most), sec, con)

-- what the three bytes of a scalar spell
pub spelled-three : (n b c d e code : ℕ) → decoded_by n b c d e ≡ good code 3
    → (0xE_2880 ≤ (b * 64 + c) * 64 + d) × ((b * 64 + c) * 64 + d < 0xF_2080)
spelled-three n b c d e code is =
    let shape = shape-three n b c d e code is in
    let narrowed = shape.2 in
    let follows = shape.3 in
    let range : (0x80 ≤ c) × (c < 0xC0) × (0x80 ≤ d) × (d < 0xC0) =
    (grind (arith, nat_tests, narrowed), grind (arith, nat_tests, narrowed), grind (arith, nat_tests, follows), grind (arith, nat_tests, follows)) in
    let narrow : b ≡ 0xE0 → 0xA0 ≤ c = λ e. grind (arith, nat_tests, narrowed) in
    (grind (arith), omega (arith, shape.0, shape.1, range))

-- three bytes of a scalar are not those of a surrogate
pub spelled-no-surrogate : (n b c d e code : ℕ) → decoded_by n b c d e ≡ good code 3
    → ((b * 64 + c) * 64 + d < 0xE_F880) ⊎ (0xF_0080 ≤ (b * 64 + c) * 64 + d)
spelled-no-surrogate n b c d e code is =
    let shape = shape-three n b c d e code is in
    let narrowed = shape.2 in
    let follows = shape.3 in
    let range : (0x80 ≤ c) × (c < 0xC0) × (0x80 ≤ d) × (d < 0xC0) =
    (grind (arith, nat_tests, narrowed), grind (arith, nat_tests, narrowed), grind (arith, nat_tests, follows), grind (arith, nat_tests, follows)) in
    let narrow : b ≡ 0xED → c < 0xA0 = λ e. grind (arith, nat_tests, narrowed) in
    grind (arith)
