-- Scalars of few bytes, as they are read.
use Rattle.std.proofs.Common.{◌≡◌, ℕ, ◌+◌, ◌-◌, ◌<◌, ◌≤◌, true, List, drop, length, slice_index, take, sym, ap, ap₂, ◌∙◌, arith}
use Rattle.std.proofs.lemmas.List.{get_or-drop, length-drop}
use Rattle.bstr.specs.Utf8.{code_of_2, code_of_3, continues, decoded, good, or_replacement, second}
use Rattle.bstr.proofs.lemmas.PieceLemmas.{value-1, value-6, value-9}
use Rattle.lbk_words.specs.Places.{IsReadAt}
use Rattle.lbk_words.proofs.WalkLemmas.{piece-there, rest-of}

-- what the bytes from one on are decoded to
good-read : (text : List ℕ) (at code size : ℕ) → at < length text → decoded (drop at text) ≡ good code size → IsReadAt text at code (at + size)
good-read text at code size inside read = piece-there text at code size inside (sym (ap (λ d. or_replacement d.char) read)) (sym (ap (λ d. d.size) read))

pub coded-read : (text : List ℕ) (at code size : ℕ) → at < length text → decoded (take (length text - at) (drop at text)) ≡ good code size → IsReadAt text at code (at + size)
coded-read text at code size inside coded = good-read text at code size inside (ap decoded (sym (rest-of text at)) ∙ coded)

-- so are ill-formed bytes, as U+FFFD
pub any-read : (text : List ℕ) (at code size : ℕ) → at < length text → code ≡ or_replacement (decoded (take (length text - at) (drop at text))).char
    → size ≡ (decoded (take (length text - at) (drop at text))).size → IsReadAt text at code (at + size)
any-read text at code size inside is_char is_size =
    let rest = rest-of text at in
    piece-there text at code size inside (is_char ∙ ap (λ bs. or_replacement (decoded bs).char) rest) (is_size ∙ ap (λ bs. (decoded bs).size) rest)

-- the first of them
front : (text : List ℕ) (at : ℕ) → slice_index (drop at text) 0 ≡ slice_index text at
front text at = get_or-drop at text 0 0 ∙ ap (λ n. slice_index text n) (let e : at + 0 ≡ at = omega arith in e)

-- a byte below 128 is read as a scalar of its own
pub one-read : (text : List ℕ) (at : ℕ) → at < length text → slice_index text at < 128 → IsReadAt text at (slice_index text at) (at + 1)
one-read text at inside low =
    let rest = drop at text in
    let some : 0 < length rest = omega (arith, length-drop at text) in
    let same = front text at in
    good-read text at (slice_index text at) 1 inside
    (value-1 (length rest) (slice_index rest 0) (slice_index rest 1) (slice_index rest 2) (slice_index rest 3) (some, omega arith) ∙ ap (λ c. good c 1) same)

-- two bytes of a letter are read as one scalar
pub two-read : (text : List ℕ) (at : ℕ) → at + 1 < length text → 0xC2 ≤ slice_index text at → slice_index text at < 0xE0
    → second (slice_index text at) (slice_index text (at + 1)) ≡ true
    → IsReadAt text at (code_of_2 (slice_index text at) (slice_index text (at + 1))) (at + 2)
two-read text at inside least most goes =
    let rest = drop at text in
    let some : 2 ≤ length rest = omega (arith, length-drop at text) in
    let one = front text at in
    let two : slice_index rest 1 ≡ slice_index text (at + 1) = get_or-drop at text 1 0 in
    good-read text at (code_of_2 (slice_index text at) (slice_index text (at + 1))) 2 (omega arith)
    (value-6 (length rest) (slice_index rest 0) (slice_index rest 1) (slice_index rest 2) (slice_index rest 3) (some, omega (arith, one), omega (arith, one), ap₂ second one two ∙ goes)
    ∙ ap₂ (λ b c. good (code_of_2 b c) 2) one two)

-- and so are three
pub three-read : (text : List ℕ) (at : ℕ) → at + 2 < length text → 0xE0 ≤ slice_index text at → slice_index text at < 0xF0
    → second (slice_index text at) (slice_index text (at + 1)) ≡ true → continues (slice_index text (at + 2)) ≡ true
    → IsReadAt text at (code_of_3 (slice_index text at) (slice_index text (at + 1)) (slice_index text (at + 2))) (at + 3)
three-read text at inside least most goes ends =
    let rest = drop at text in
    let some : 3 ≤ length rest = omega (arith, length-drop at text) in
    let one = front text at in
    let two : slice_index rest 1 ≡ slice_index text (at + 1) = get_or-drop at text 1 0 in
    let three : slice_index rest 2 ≡ slice_index text (at + 2) = get_or-drop at text 2 0 in
    good-read text at (code_of_3 (slice_index text at) (slice_index text (at + 1)) (slice_index text (at + 2))) 3 (omega arith)
    (value-9 (length rest) (slice_index rest 0) (slice_index rest 1) (slice_index rest 2) (slice_index rest 3)
    (some, omega (arith, one), omega (arith, one), ap₂ second one two ∙ goes, ap (λ d. continues d) three ∙ ends)
    ∙ ap₂ (λ b c. good (code_of_3 b c (slice_index rest 2)) 3) one two ∙ ap (λ d. good (code_of_3 (slice_index text at) (slice_index text (at + 1)) d) 3) three)
