-- Letters of two bytes and of three that are found by their bytes.
use Rattle.std.proofs.Common.{◌≡◌, ◌⊎◌, ℕ, zero, suc, ◌+◌, ◌-◌, ◌*◌, ◌/◌, ◌%◌, ◌<◌, ◌≤◌, Bool, true, false, cond, not, ◌&&◌, ◌||◌, ◌==◌, nat_le, nat_lt, List, [], ◌∷◌, get_or, refl, sym, ap, ap₂, ◌∙◌, ⊎_elim, inl, inr, eqb-true, leb-true, ltb-true, arith}
use Rattle.std.specs.Int.Bits.{and_zero_l, and_zero_r}
use Rattle.std.proofs.lemmas.Bool.{and_parts, cases_lt, le-leb}
use Rattle.std.proofs.lemmas.Bool.Decides.{nat_tests}
use Rattle.bstr.specs.Utf8.{code_of_2, code_of_3, continues, second}
use Rattle.ucd_table.proofs.Computing.{tables}
use Rattle.ucd_table.specs.Rows.{Range, in_ranges}
use Rattle.ucd_table.proofs.Facts.{Stepped-always, Stepped-below, passes_below}
use Rattle.ucd_table.proofs.Stepped.{of_ranges, zip_stepped}
use Rattle.ucd_table.proofs.TrieCheck.{all_below, all_below-at}
use Rattle.ucd_breaks.proofs.WordBreakLemmas.{word_break_stepped}
use Rattle.ucd_category.proofs.GeneralCategoryLemmas.{general_category_stepped}
use Rattle.ucd_emoji.proofs.BinaryLemmas.{is_extended_pictographic_stepped}
use Rattle.lbk_masks.specs.Sets.{meets, sets_in}
use Rattle.lbk_words.specs.declared.letter_table.TheConstants.{FIRSTS, SECONDS}
use Rattle.lbk_words.specs.Blocks.{begins_long, class_at, class_of, front_code, is_first, is_inner, is_long, is_middle, is_open, letter_class, size_at, spells_long}
use Rattle.lbk_words.specs.Kinds.{kind_at}
use Rattle.lbk_words.proofs.Booleans.{or_parts, unless}
use Rattle.lbk_words.proofs.KindTrie.{kind_stepped}

abbrev spells : ℕ → ℕ → Bool
spells b c = meets (sets_in FIRSTS b) (sets_in SECONDS c)

pub or-true : (a : Bool) → (a || true) ≡ true
or-true true = refl
or-true false = refl

-- of all scalars of two bytes
abbrev letter_right : ℕ → ℕ → Bool
letter_right code k = not (spells (192 + code / 64) (128 + code % 64)) || ((k == 22) && (second (192 + code / 64) (128 + code % 64) && nat_le 194 (192 + code / 64)))

letters_right : passes_below kind_at kind_stepped letter_right 2048 ≡ true
unfolding all_below tables word_break_stepped general_category_stepped is_extended_pictographic_stepped
letters_right = refl

-- no other bytes are the first of them, or the second
abbrev first_right : ℕ → Bool
first_right b = (sets_in FIRSTS b == 0) || (nat_le 192 b && nat_lt b 224)

abbrev second_right : ℕ → Bool
second_right c = (sets_in SECONDS c == 0) || (nat_le 128 c && nat_lt c 192)

firsts_right : all_below first_right 256 ≡ true
unfolding all_below
firsts_right = refl

seconds_right : all_below second_right 256 ≡ true
unfolding all_below
seconds_right = refl

in-range : (x low high n : ℕ) → ((x == 0) || (nat_le low n && nat_lt n high)) ≡ true → (x == 0) ≡ false → (low ≤ n) × (n < high)
in-range x low high n right some =
    let both = and_parts (nat_le low n) (nat_lt n high) (sym (ap (λ b. b || (nat_le low n && nat_lt n high)) some) ∙ right) in (leb-true low n both.0, ltb-true n high both.1)

-- sets that meet are not empty
some-left : (x y : ℕ) → meets x y ≡ true → (x == 0) ≡ false
some-left x y is = unless (x == 0) (λ none. (let e : true ≡ false = sym is ∙ ap (λ n. meets n y) (eqb-true x 0 none) ∙ ap (λ n. not (n == 0)) (and_zero_l y) in cc))

some-right : (x y : ℕ) → meets x y ≡ true → (y == 0) ≡ false
some-right x y is = unless (y == 0) (λ none. (let e : true ≡ false = sym is ∙ ap (meets x) (eqb-true y 0 none) ∙ ap (λ n. not (n == 0)) (and_zero_r x) in cc))

pub record IsLetter (b c : ℕ) : Type 0 where
  pub least : 0xC2 ≤ b
  pub most : b < 0xE0
  pub next : (128 ≤ c) × (c < 192)
  pub kind : kind_at (code_of_2 b c) ≡ 22
  pub goes : second b c ≡ true

-- the bytes of a code, and the code of the bytes
spelling : (b c : ℕ) → (192 ≤ b) × (b < 224) → (128 ≤ c) × (c < 192) → (192 + code_of_2 b c / 64 ≡ b) × ((128 + code_of_2 b c % 64 ≡ c) × (code_of_2 b c < 2048))
spelling b c first next = (omega (arith, first, next), (omega (arith, first, next), omega (arith, first, next)))

pub spelled : (b c : ℕ) → b < 256 → c < 256 → spells b c ≡ true → IsLetter b c
spelled b c few_b few_c is = record {
  least = leb-true 194 b goes.1;
  most = first.1;
  next = next;
  kind = eqb-true _ _ kind.0;
  goes = goes.0;
}
  where
    first : (192 ≤ b) × (b < 224)
    first = in-range (sets_in FIRSTS b) 192 224 b (all_below-at first_right 256 b firsts_right few_b) (some-left (sets_in FIRSTS b) (sets_in SECONDS c) is)

    next : (128 ≤ c) × (c < 192)
    next = in-range (sets_in SECONDS c) 128 192 c (all_below-at second_right 256 c seconds_right few_c) (some-right (sets_in FIRSTS b) (sets_in SECONDS c) is)

    code : ℕ
    code = code_of_2 b c

    whole : ((kind_at code == 22) && (second b c && nat_le 194 b)) ≡ true
    whole =
        let same = spelling b c first next in
        sym (ap₂ (λ x y. not (spells x y) || ((kind_at code == 22) && (second x y && nat_le 194 x))) same.0 same.1.0
        ∙ ap (λ s. not s || ((kind_at code == 22) && (second b c && nat_le 194 b))) is)
        ∙ Stepped-below kind_at kind_stepped letter_right 2048 letters_right code same.1.1

    kind : ((kind_at code == 22) ≡ true) × ((second b c && nat_le 194 b) ≡ true)
    kind = and_parts (kind_at code == 22) (second b c && nat_le 194 b) whole

    goes : (second b c ≡ true) × (nat_le 194 b ≡ true)
    goes = and_parts (second b c) (nat_le 194 b) kind.1

-- of three bytes
abbrev long_ranges : List Range
long_ranges = (0x1E00, 0x1EFF) ∷ (0xAC00, 0xD77F) ∷ []

long_right : (code : ℕ) → code ≤ 0x10_FFFF → (not (in_ranges long_ranges code) || (kind_at code == 22)) ≡ true
unfolding tables word_break_stepped general_category_stepped is_extended_pictographic_stepped
long_right =
    let either = λ (inside : Bool) (kind : ℕ). not inside || (kind == 22) in
    let steps = zip_stepped either (in_ranges long_ranges) kind_at (of_ranges long_ranges refl) kind_stepped in
    Stepped-always (λ code. either (in_ranges long_ranges code) (kind_at code)) steps refl

-- each begins with two bytes that are known, and has 64 codes with them
front_in : (f : ℕ) → ((nat_le 0x78 f && nat_lt f 0x7C) || (nat_le 0x2B0 f && nat_lt f 0x35E)) ≡ true → ((0x78 ≤ f) × (f < 0x7C)) ⊎ ((0x2B0 ≤ f) × (f < 0x35E))
front_in f is = by (nat_le 0x78 f && nat_lt f 0x7C) refl
  where
    by : (b : Bool) → (nat_le 0x78 f && nat_lt f 0x7C) ≡ b → ((0x78 ≤ f) × (f < 0x7C)) ⊎ ((0x2B0 ≤ f) × (f < 0x35E))
    by true is_first = let both = and_parts (nat_le 0x78 f) (nat_lt f 0x7C) is_first in inl (leb-true 0x78 f both.0, ltb-true f 0x7C both.1)
    by false none =
        let both = and_parts (nat_le 0x2B0 f) (nat_lt f 0x35E) (sym (ap (λ b. b || (nat_le 0x2B0 f && nat_lt f 0x35E)) none) ∙ is) in
        inr (leb-true 0x2B0 f both.0, ltb-true f 0x35E both.1)

latin-kind : (code : ℕ) → 0x1E00 ≤ code → code ≤ 0x1EFF → kind_at code ≡ 22
unfolding in_ranges
latin-kind code least most = eqb-true (kind_at code) 22 (rw (le-leb 0x1E00 code least, le-leb code 0x1EFF most) at (long_right code (omega (arith, most))))

hangul-kind : (code : ℕ) → 0xAC00 ≤ code → code ≤ 0xD77F → kind_at code ≡ 22
unfolding in_ranges
hangul-kind code least most =
    eqb-true (kind_at code) 22
    (rw (or-true (nat_le 0x1E00 code && nat_le code 0x1EFF)) at (rw (le-leb 0xAC00 code least, le-leb code 0xD77F most) at (long_right code (omega (arith, most)))))

long-kind : (f d : ℕ) → ((0x78 ≤ f) × (f < 0x7C)) ⊎ ((0x2B0 ≤ f) × (f < 0x35E)) → d < 64 → kind_at (f * 64 + d) ≡ 22
long-kind f d is less = ⊎_elim
    (λ (latin : (0x78 ≤ f) × (f < 0x7C)). latin-kind (f * 64 + d) (omega (arith, latin, less)) (omega (arith, latin, less)))
    (λ (hangul : (0x2B0 ≤ f) × (f < 0x35E)). hangul-kind (f * 64 + d) (omega (arith, hangul, less)) (omega (arith, hangul, less)))
    is

pub record IsLong (b c d : ℕ) : Type 0 where
  pub lead : (0xE1 ≤ b) × (b < 0xEE)
  pub next : (128 ≤ c) × (c < 192)
  pub last : (128 ≤ d) × (d < 192)
  pub few : code_of_3 b c d < 0xD780
  pub kind : kind_at (code_of_3 b c d) ≡ 22
  pub goes : second b c ≡ true
  pub ends : continues d ≡ true

continuing : (n : ℕ) → continues n ≡ true → (128 ≤ n) × (n < 192)
continuing n is =
    let both = and_parts (nat_lt 0x7F n) (nat_lt n 0xC0) is in
    let from = ltb-true 0x7F n both.0 in (omega (arith, from), ltb-true n 0xC0 both.1)

-- E0 and F0 to F4 begin no such letter, and behind ED comes no surrogate
goes_long : (b c : ℕ) → (0xE1 ≤ b) × (b < 0xEE) → (128 ≤ c) × (c < 192) → (b ≡ 0xED → c < 0xA0) → second b c ≡ true
goes_long b c lead next low = grind (arith, nat_tests, lead, next, low)

long-spelled : (b c d : ℕ) → spells_long b c d ≡ true → IsLong b c d
long-spelled b c d is = record {
  lead = lead;
  next = next;
  last = last;
  few = omega (arith, most, last);
  kind = long-kind front (d - 0x80) inside (omega (arith, last));
  goes = goes_long b c lead next (λ same. omega (arith, most, same, next));
  ends = parts.1;
}
  where
    front : ℕ
    front = front_code b c

    parts : (begins_long b c ≡ true) × (continues d ≡ true)
    parts = and_parts (begins_long b c) (continues d) is

    first : (continues c ≡ true) × (((nat_le 0x78 front && nat_lt front 0x7C) || (nat_le 0x2B0 front && nat_lt front 0x35E)) ≡ true)
    first = and_parts (continues c) ((nat_le 0x78 front && nat_lt front 0x7C) || (nat_le 0x2B0 front && nat_lt front 0x35E)) parts.0

    inside : ((0x78 ≤ front) × (front < 0x7C)) ⊎ ((0x2B0 ≤ front) × (front < 0x35E))
    inside = front_in front first.1

    least : 0x78 ≤ front
    least = ⊎_elim (λ (latin : (0x78 ≤ front) × (front < 0x7C)). latin.0) (λ (hangul : (0x2B0 ≤ front) × (front < 0x35E)). omega (arith, hangul)) inside

    most : front < 0x35E
    most = ⊎_elim (λ (latin : (0x78 ≤ front) × (front < 0x7C)). omega (arith, latin)) (λ (hangul : (0x2B0 ≤ front) × (front < 0x35E)). hangul.1) inside

    next : (128 ≤ c) × (c < 192)
    next = continuing c first.0

    last : (128 ≤ d) × (d < 192)
    last = continuing d parts.1

    lead : (0xE1 ≤ b) × (b < 0xEE)
    lead = (omega (arith, least, next), omega (arith, most, next))

-- In bytes

pub first-letter : (bytes : List ℕ) (i : ℕ) → ((j : ℕ) → get_or bytes j 0 < 256) → is_first bytes i ≡ true → IsLetter (get_or bytes i 0) (get_or bytes (i + 1) 0)
first-letter bytes i fit is =
    spelled (get_or bytes i 0) (get_or bytes (i + 1) 0) (fit i) (fit (i + 1)) (and_parts (nat_lt i 63) (spells (get_or bytes i 0) (get_or bytes (i + 1) 0)) is).1

pub long-letter : (bytes : List ℕ) (i : ℕ) → is_long bytes i ≡ true → (i < 62) × IsLong (get_or bytes i 0) (get_or bytes (i + 1) 0) (get_or bytes (i + 2) 0)
long-letter bytes i is =
    let both = and_parts (nat_lt i 62) (spells_long (get_or bytes i 0) (get_or bytes (i + 1) 0) (get_or bytes (i + 2) 0)) is in
    (ltb-true i 62 both.0, long-spelled (get_or bytes i 0) (get_or bytes (i + 1) 0) (get_or bytes (i + 2) 0) both.1)

-- of the next byte
pub inner-next : (bytes : List ℕ) (i : ℕ) → is_inner bytes (i + 1) ≡ is_open bytes i
inner-next bytes i = ap (is_inner bytes) (let e : i + 1 ≡ suc i = omega arith in e)

pub middle-next : (bytes : List ℕ) (i : ℕ) → is_middle bytes (i + 1) ≡ is_long bytes i
middle-next bytes i = ap (is_middle bytes) (let e : i + 1 ≡ suc i = omega arith in e)

-- by what begins at a byte: a letter of two bytes, one of three, or neither
pub size-is : (bytes : List ℕ) (i : ℕ) (first long : Bool) → is_first bytes i ≡ first → is_long bytes i ≡ long → size_at bytes i ≡ cond first 2 (cond long 3 1)
size-is bytes i first long first_is long_is = ap₂ (λ x y. cond x 2 (cond y 3 1)) first_is long_is

pub by_letter : {X : Type 0} (bytes : List ℕ) (i : ℕ) → (is_first bytes i ≡ true → size_at bytes i ≡ 2 → X) → (is_first bytes i ≡ false → is_long bytes i ≡ true → size_at bytes i ≡ 3 → X)
    → (is_first bytes i ≡ false → is_long bytes i ≡ false → size_at bytes i ≡ 1 → X) → X
by_letter {X} bytes i two three one = by (is_first bytes i) (is_long bytes i) refl refl
  where
    by : (first long : Bool) → is_first bytes i ≡ first → is_long bytes i ≡ long → X
    by true long first_is long_is = two first_is (size-is bytes i true long first_is long_is)
    by false true first_is long_is = three first_is long_is (size-is bytes i false true first_is long_is)
    by false false first_is long_is = one first_is long_is (size-is bytes i false false first_is long_is)

-- what is open
pub first-open : (bytes : List ℕ) (i : ℕ) → is_first bytes i ≡ true → is_open bytes i ≡ true
first-open bytes i is = ap (λ b. (b || is_long bytes i) || is_middle bytes i) is

pub long-open : (bytes : List ℕ) (i : ℕ) → is_long bytes i ≡ true → is_open bytes i ≡ true
long-open bytes i is = ap (λ b. (is_first bytes i || b) || is_middle bytes i) is ∙ ap (λ b. b || is_middle bytes i) (or-true (is_first bytes i))

pub middle-open : (bytes : List ℕ) (i : ℕ) → is_long bytes i ≡ true → is_open bytes (i + 1) ≡ true
middle-open bytes i is =
    ap (λ b. (is_first bytes (i + 1) || is_long bytes (i + 1)) || b) (middle-next bytes i ∙ is) ∙ or-true (is_first bytes (i + 1) || is_long bytes (i + 1))

-- by what it is
pub record IsOpen (bytes : List ℕ) (i : ℕ) : Type 0 where
  pub wide : 128 ≤ get_or bytes i 0
  pub next : (128 ≤ get_or bytes (i + 1) 0) × (get_or bytes (i + 1) 0 < 192)

middle-is : (bytes : List ℕ) (i : ℕ) → is_middle bytes i ≡ true → IsOpen bytes i
middle-is bytes zero is = absurd (let never : ⊥ = cc in never)
middle-is bytes (suc i) is =
    let long = (long-letter bytes i is).1 in
    let here = ap (λ n. get_or bytes n 0) (let e : i + 1 ≡ suc i = omega arith in e) in
    let behind = ap (λ n. get_or bytes n 0) (let e : i + 2 ≡ suc i + 1 = omega arith in e) in
    let next = long.next in
    let last = long.last in
    record { wide = omega (arith, here, next); next = (omega (arith, behind, last), omega (arith, behind, last)) }

pub open-is : (bytes : List ℕ) (i : ℕ) → ((j : ℕ) → get_or bytes j 0 < 256) → is_open bytes i ≡ true → IsOpen bytes i
open-is bytes i fit is = by_letter bytes i
    (λ first size.
    let letter = first-letter bytes i fit first in
    let least = letter.least in
    record { wide = omega (arith, least); next = letter.next })
    (λ none long size.
    let letter = (long-letter bytes i long).1 in
    let lead = letter.lead in
    record { wide = omega (arith, lead); next = letter.next })
    (λ none other size. middle-is bytes i (sym (ap₂ (λ x y. (x || y) || is_middle bytes i) none other) ∙ is))

inner-is : (bytes : List ℕ) (i : ℕ) → ((j : ℕ) → get_or bytes j 0 < 256) → is_inner bytes i ≡ true → (128 ≤ get_or bytes i 0) × (get_or bytes i 0 < 192)
inner-is bytes zero fit is = absurd (let never : ⊥ = cc in never)
inner-is bytes (suc i) fit is =
    let next = (open-is bytes i fit is).next in
    let same = ap (λ n. get_or bytes n 0) (let e : i + 1 ≡ suc i = omega arith in e) in
    (omega (arith, next, same), omega (arith, next, same))

-- a byte below 128 is of no such letter
pub low-open : (bytes : List ℕ) (i : ℕ) → ((j : ℕ) → get_or bytes j 0 < 256) → get_or bytes i 0 < 128 → is_open bytes i ≡ false
low-open bytes i fit low = unless (is_open bytes i) (λ is. (let wide = (open-is bytes i fit is).wide in omega arith))

pub low-inner : (bytes : List ℕ) (i : ℕ) → ((j : ℕ) → get_or bytes j 0 < 256) → get_or bytes i 0 < 128 → is_inner bytes i ≡ false
low-inner bytes i fit low = unless (is_inner bytes i) (λ is. (let least = (inner-is bytes i fit is).0 in omega arith))

-- and begins none
pub not-open : (bytes : List ℕ) (i : ℕ) → is_open bytes i ≡ false → (is_first bytes i ≡ false) × (is_long bytes i ≡ false)
not-open bytes i none = or_parts (is_first bytes i) (is_long bytes i) (or_parts (is_first bytes i || is_long bytes i) (is_middle bytes i) none).0

-- a byte that begins a letter goes on with none
pub middle-inner : (bytes : List ℕ) (i : ℕ) → is_inner bytes i ≡ false → is_middle bytes i ≡ false
middle-inner bytes zero none = refl
middle-inner bytes (suc i) none = (not-open bytes i none).1

-- nor does one that goes on with a letter begin one
last-closed : (bytes : List ℕ) (i : ℕ) → ((j : ℕ) → get_or bytes j 0 < 256) → get_or bytes i 0 < 192 → is_middle bytes i ≡ false → is_open bytes i ≡ false
last-closed bytes i fit few none =
    let first = unless (is_first bytes i) (λ is. (let least = (first-letter bytes i fit is).least in omega arith)) in
    let long = unless (is_long bytes i) (λ is. (let lead = (long-letter bytes i is).1.lead in omega arith)) in
    ap₂ (λ x y. (x || y) || is_middle bytes i) first long ∙ none

-- the byte behind a scalar goes on with no letter
pub next-starts : (bytes : List ℕ) (i : ℕ) → ((j : ℕ) → get_or bytes j 0 < 256) → is_inner bytes i ≡ false → is_inner bytes (i + size_at bytes i) ≡ false
next-starts bytes i fit starts = by_letter bytes i
    (λ first size.
    let letter = first-letter bytes i fit first in
    let none = unless (is_long bytes i) (λ is. (let lead = (long-letter bytes i is).1.lead in let most = letter.most in omega arith)) in
    closed (i + 1) (omega (arith, size)) (last-closed bytes (i + 1) fit letter.next.1 (middle-next bytes i ∙ none)))
    (λ none long size.
    let letter = (long-letter bytes i long).1 in
    let other = unless (is_long bytes (i + 1)) (λ is. (let lead = (long-letter bytes (i + 1) is).1.lead in let next = letter.next in omega (arith, next))) in
    closed (i + 2) (omega (arith, size))
    (last-closed bytes (i + 2) fit letter.last.1
    (ap (is_middle bytes) (let e : i + 2 ≡ i + 1 + 1 = omega arith in e) ∙ middle-next bytes (i + 1) ∙ other)))
    (λ none other size. closed i (omega (arith, size)) (ap₂ (λ x y. (x || y) || is_middle bytes i) none other ∙ middle-inner bytes i starts))
  where
    -- by the last byte of the scalar
    closed : (j : ℕ) → i + size_at bytes i ≡ j + 1 → is_open bytes j ≡ false → is_inner bytes (i + size_at bytes i) ≡ false
    closed j place none = ap (is_inner bytes) place ∙ inner-next bytes j ∙ none

-- what the bytes of letters are
open-class : (bytes : List ℕ) (i : ℕ) → is_open bytes i ≡ true → class_at bytes i ≡ letter_class
open-class bytes i is = ap (λ b. cond (b || is_inner bytes i) letter_class (class_of (get_or bytes i 0))) is

pub inner-class : (bytes : List ℕ) (i : ℕ) → is_inner bytes i ≡ true → class_at bytes i ≡ letter_class
inner-class bytes i is =
    ap (λ b. cond (is_open bytes i || b) letter_class (class_of (get_or bytes i 0))) is ∙ ap (λ b. cond b letter_class (class_of (get_or bytes i 0))) (or-true (is_open bytes i))

-- up to the byte behind one that is open
open-classes : (bytes : List ℕ) (i j : ℕ) → is_open bytes i ≡ true → i ≤ j → j ≤ i + 1 → class_at bytes j ≡ letter_class
open-classes bytes i j is from upto = ⊎_elim
    (λ (less : i < j). (let here : j ≡ i + 1 = omega arith in ap (class_at bytes) here ∙ inner-class bytes (i + 1) (inner-next bytes i ∙ is)))
    (λ (most : j ≤ i). (let here : j ≡ i = omega arith in ap (class_at bytes) here ∙ open-class bytes i is))
    (cases_lt i j)

pub first-classes : (bytes : List ℕ) (i j : ℕ) → is_first bytes i ≡ true → i ≤ j → j < i + 2 → class_at bytes j ≡ letter_class
first-classes bytes i j is from upto = open-classes bytes i j (first-open bytes i is) from (omega arith)

pub long-classes : (bytes : List ℕ) (i j : ℕ) → is_long bytes i ≡ true → i ≤ j → j < i + 3 → class_at bytes j ≡ letter_class
long-classes bytes i j is from upto = ⊎_elim
    (λ (later : i < j). open-classes bytes (i + 1) j (middle-open bytes i is) (omega arith) (omega arith))
    (λ (most : j ≤ i). open-classes bytes i j (long-open bytes i is) from (omega arith))
    (cases_lt i j)

pub low-class : (bytes : List ℕ) (i : ℕ) → ((j : ℕ) → get_or bytes j 0 < 256) → get_or bytes i 0 < 128 → class_at bytes i ≡ class_of (get_or bytes i 0)
low-class bytes i fit low =
    ap₂ (λ a b. cond (a || b) letter_class (class_of (get_or bytes i 0))) (low-open bytes i fit low) (low-inner bytes i fit low)
