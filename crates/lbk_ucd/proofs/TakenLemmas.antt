-- The bits of words that stand for codes.
use Rattle.std.proofs.Common.{◌≡◌, ◌⊎◌, ℕ, ◌+◌, ◌-◌, ◌*◌, ◌/◌, ◌%◌, ◌^◌, ◌<◌, ◌≤◌, ◌&&◌, ◌||◌, ◌==◌, Bool, true, false, not, leb, List, get_or, bit_and, refl, sym, ap, ap₂, ◌∙◌, ⊎_elim, arith, w64}
use Rattle.std.specs.Int.{bit_not, trailing_zeros}
use Rattle.std.proofs.lemmas.Bool.{and_left, and_right, cases_lt, cases_eq, eq-eqb, false≢true, ne_eqb}
use Rattle.std.proofs.lemmas.Bool.Decides.{nat_tests}
use Rattle.std.proofs.lemmas.Nat.{and_le_l}
use Rattle.std.proofs.lemmas.Nat.Bits.{bit_at_ones}
use Rattle.lbk_masks.specs.Bits.{is_marked}
use Rattle.lbk_masks.specs.Sets.{is_set}
use Rattle.lbk_masks.proofs.BitLemmas.{set-and, set-none, set-not}
use Rattle.lbk_masks.proofs.KeptLemmas.{low-below, lowest}
use Rattle.lbk_masks.proofs.WordLemmas.{or-none}

-- these bits of a word stand for codes from the first to the last
abbrev pub AreWithin : ℕ → ℕ → ℕ → ℕ → Type 0
AreWithin word first last bits = (i : ℕ) → i < 64 → is_set bits i ≡ (leb first (64 * word + i) && leb (64 * word + i) last)

pub is-false : (b : Bool) → (b ≡ true → ⊥) → b ≡ false
is-false true f = absurd (f refl)
is-false false _ = refl

both : (a b : Bool) → (a && b) ≡ true → (a ≡ true) × (b ≡ true)
both true b is = (refl, is)
both false b is = absurd (false≢true is)

first-false : (a b : Bool) → (a && b) ≡ false → b ≡ true → a ≡ false
first-false true b none is = absurd (false≢true (sym none ∙ is))
first-false false b none is = refl

pub all-set : (i : ℕ) → i < 64 → is_set (2 ^ 64 - 1) i ≡ true
all-set i few = ap (λ n. n == 1) (bit_at_ones 64 i few)

-- bits from one on and not from past another on
pub between : (a b first last code i : ℕ) → b < 2 ^ 64 → i < 64 → is_set a i ≡ leb first code → is_set b i ≡ leb (last + 1) code
    → is_set (bit_and a (bit_not w64 b)) i ≡ (leb first code && leb code last)
between a b first last code i fits few from past =
    set-and a (bit_not w64 b) i
    ∙ ap (λ s. s && is_set (bit_not w64 b) i) from
    ∙ ap (λ s. leb first code && s) (set-not b i fits few ∙ ap not past ∙ (let e : not (leb (last + 1) code) ≡ leb code last = grind (arith, nat_tests) in e))

-- the bit of a code in its word
code-bit : (word first last bits code : ℕ) → AreWithin word first last bits → code / 64 ≡ word → is_set bits (code % 64) ≡ (leb first code && leb code last)
code-bit word first last bits code within here =
    within (code % 64) (omega arith) ∙ ap (λ n. leb first n && leb n last) (let e : 64 * word + code % 64 ≡ code = omega arith in e)

inside-set : (first last code : ℕ) → first ≤ code → code ≤ last → (leb first code && leb code last) ≡ true
inside-set first last code low high = grind (arith, nat_tests)

outside-unset : (first last code : ℕ) → (code < first) ⊎ (last < code) → (leb first code && leb code last) ≡ false
outside-unset first last code out = grind (arith, nat_tests)

-- a code of them whose bit is set in its word
pub found-code : (words : List ℕ) (word first last bits : ℕ) → get_or words word 0 < 2 ^ 64 → AreWithin word first last bits
    → (bit_and (get_or words word 0) bits == 0) ≡ false → (k : ℕ) × (first ≤ k) × (k ≤ last) × (is_marked words k ≡ true)
found-code words word first last bits fits within some =
    let held = get_or words word 0 in
    let common = bit_and held bits in
    let i = bit_and (trailing_zeros w64 common) 63 in
    let few = low-below (trailing_zeros w64 common) in
    let least = and_le_l held bits in
    let set = (lowest common (omega arith)).set (grind (arith, nat_tests)) in
    let parts = both (is_set held i) (is_set bits i) (sym (set-and held bits i) ∙ set) in
    let here = both (leb first (64 * word + i)) (leb (64 * word + i) last) (sym (within i few) ∙ parts.1) in (
      64 * word + i,
      grind (arith, nat_tests),
      grind (arith, nat_tests),
      ap₂ (λ w j. is_set (get_or words w 0) j) (let e : (64 * word + i) / 64 ≡ word = omega arith in e) (let e : (64 * word + i) % 64 ≡ i = omega arith in e) ∙ parts.0,
    )

-- no code of them whose bit is set in its word
pub no-code : (words : List ℕ) (word first last bits k : ℕ) → AreWithin word first last bits → (bit_and (get_or words word 0) bits == 0) ≡ true
    → k / 64 ≡ word → first ≤ k → k ≤ last → is_marked words k ≡ false
no-code words word first last bits k within none here low high =
    let held = get_or words word 0 in
    let zero : bit_and held bits ≡ 0 = grind (arith, nat_tests) in
    ap (λ w. is_set (get_or words w 0) (k % 64)) here
    ∙ first-false (is_set held (k % 64)) (is_set bits (k % 64)) (sym (set-and held bits (k % 64)) ∙ ap (λ n. is_set n (k % 64)) zero ∙ set-none (k % 64))
    (code-bit word first last bits k within here ∙ inside-set first last k low high)

-- after the bits of a word were joined
pub joined-inside : (old : Bool) (word first last bits k : ℕ) → AreWithin word first last bits → first ≤ k → k ≤ last → (k / 64 < word → old ≡ true)
    → k / 64 < word + 1 → (old || ((k / 64 == word) && is_set bits (k % 64))) ≡ true
joined-inside old word first last bits k within low high before near =
    ⊎_elim
    (λ (less : k / 64 < word). ap (λ b. b || ((k / 64 == word) && is_set bits (k % 64))) (before less))
    (λ (not_less : word ≤ k / 64).
    let here : k / 64 ≡ word = omega arith in
    let set : ((k / 64 == word) && is_set bits (k % 64)) ≡ true = ap₂ ◌&&◌ (eq-eqb (k / 64) word here) (code-bit word first last bits k within here ∙ inside-set first last k low high) in
    ap (λ b. old || b) set ∙ or-set old)
    (cases_lt (k / 64) word)
  where
    or-set : (b : Bool) → (b || true) ≡ true
    or-set true = refl
    or-set false = refl

pub joined-outside : (old : Bool) (word first last bits k : ℕ) → AreWithin word first last bits → (k < first) ⊎ (last < k)
    → (old || ((k / 64 == word) && is_set bits (k % 64))) ≡ old
joined-outside old word first last bits k within out = sym (or-none old ((k / 64 == word) && is_set bits (k % 64)) unset)
  where
    unset : ((k / 64 == word) && is_set bits (k % 64)) ≡ false
    unset =
        ⊎_elim
        (λ (here : k / 64 ≡ word). and_right (k / 64 == word) (is_set bits (k % 64)) (code-bit word first last bits k within here ∙ outside-unset first last k out))
        (λ (apart : k / 64 ≡ word → ⊥). and_left (k / 64 == word) (is_set bits (k % 64)) (ne_eqb (k / 64) word apart))
        (cases_eq (k / 64) word)

-- with one word more
pub any-more : (words : List ℕ) (word first last bits : ℕ) (any : Bool) → get_or words word 0 < 2 ^ 64 → AreWithin word first last bits
    → (any ≡ true → (k : ℕ) × (first ≤ k) × (k ≤ last) × (is_marked words k ≡ true))
    → (any || not (bit_and (get_or words word 0) bits == 0)) ≡ true → (k : ℕ) × (first ≤ k) × (k ≤ last) × (is_marked words k ≡ true)
any-more words word first last bits true fits within found is = found refl
any-more words word first last bits false fits within found is = found-code words word first last bits fits within (unset (bit_and (get_or words word 0) bits == 0) is)
  where
    unset : (b : Bool) → not b ≡ true → b ≡ false
    unset true is = sym is
    unset false is = refl

pub none-more : (words : List ℕ) (word first last bits : ℕ) (any : Bool) → AreWithin word first last bits
    → (any ≡ false → (k : ℕ) → first ≤ k → k ≤ last → k / 64 < word → is_marked words k ≡ false)
    → (any || not (bit_and (get_or words word 0) bits == 0)) ≡ false → (k : ℕ) → first ≤ k → k ≤ last → k / 64 < word + 1 → is_marked words k ≡ false
none-more words word first last bits true within none is = absurd (false≢true (sym is))
none-more words word first last bits false within none is = λ k low high near.
    ⊎_elim
    (λ (less : k / 64 < word). none refl k low high less)
    (λ (not_less : word ≤ k / 64). no-code words word first last bits k within (set (bit_and (get_or words word 0) bits == 0) is) (omega arith) low high)
    (cases_lt (k / 64) word)
  where
    set : (b : Bool) → not b ≡ false → b ≡ true
    set true is = refl
    set false is = sym is
