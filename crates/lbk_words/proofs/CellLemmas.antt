-- Bytes below 128 and letters that masks find, as the scalars of a text.
use Rattle.std.proofs.Common.{◌≡◌, ◌⊎◌, inl, inr, ℕ, ◌+◌, ◌-◌, ◌<◌, ◌≤◌, Bool, true, false, not, cond, ◌||◌, ◌==◌, List, [], drop, get_or, length, slice_index, refl, sym, ap, ap₂, subst, ◌∙◌, ⊎_elim, eqb-true, arith}
use Rattle.std.proofs.lemmas.Bool.{cases_lt, not-true}
use Rattle.std.proofs.lemmas.List.{get_or-drop, get_or_past, length-drop}
use Rattle.bstr.specs.Utf8.{code_of_2, code_of_3, continues, second}
use Rattle.unicode_segmentation.specs.Word.{is_ignored, significant, value_at}
use Rattle.unicode_segmentation.proofs.WordLemmas.{significant-kept}
use Rattle.lbk_words.specs.Blocks.{ArePlain, Class, IsPlain, class_at, class_of, goes_on, is_either, is_first, is_inner, is_long, is_middle, is_open, letter_class, size_at}
use Rattle.lbk_words.specs.Kinds.{kind_at, kind_value}
use Rattle.lbk_words.specs.Places.{IsReadAt}
use Rattle.lbk_words.specs.Words.{scalars_on}
use Rattle.lbk_words.proofs.Booleans.{unless}
use Rattle.lbk_words.proofs.ByteLemmas.{IsByte, is-byte, is_plain, kept-at, kind_class, nul-kind}
use Rattle.lbk_words.proofs.KindTrie.{is-kind}
use Rattle.lbk_words.proofs.LetterLemmas.{by_letter, first-classes, first-letter, long-classes, long-letter, low-class, low-open, middle-inner, next-starts, not-open, size-is}
use Rattle.lbk_words.proofs.ReadLemmas.{one-read, three-read, two-read}
use Rattle.lbk_words.proofs.WalkLemmas.{scalars-end, scalars-next}

-- what bytes tell of the scalars of a text
pub record Reading : Type 0 where
  -- a scalar begins at a byte, with this number, and this is the byte behind it
  pub starts : ℕ → Bool
  pub code : ℕ → ℕ
  pub end : ℕ → ℕ
  pub class : ℕ → Class

abbrev pub kind : Reading → ℕ → ℕ
kind r p = kind_at (r.code p)

-- what is told of the scalar at a byte is so
pub record IsCell (text : List ℕ) (r : Reading) (p : ℕ) : Type 0 where
  pub read : IsReadAt text p (r.code p) (r.end p)
  pub scalar : r.code p < 0x11_0000
  pub plain : is_plain (kind r p) ≡ true
  pub class : r.class p ≡ kind_class (kind r p)
  pub same : (q : ℕ) → p ≤ q → q < r.end p → r.class q ≡ r.class p
  pub size : (r.end p ≡ p + 1) ⊎ (goes_on (r.class p) ≡ true)
  pub return : (slice_index text p == 13) ≡ (kind r p == 0)
  pub feed : (slice_index text p == 10) ≡ (kind r p == 8)
  pub space : (slice_index text p == 32) ≡ (kind r p == 16)

-- and what is asked of it by the one before: where the text ends a NUL does as well as none
pub record IsAhead (text : List ℕ) (r : Reading) (p : ℕ) : Type 0 where
  pub plain : is_plain (kind r p) ≡ true
  pub class : r.class p ≡ kind_class (kind r p)
  pub value : value_at (significant (scalars_on text p)) 0 ≡ kind_value (kind r p)

-- what is told of a scalar and of what is behind it
pub record AreCells (text : List ℕ) (r : Reading) (p : ℕ) : Type 0 where
  pub here : IsCell text r p
  pub ahead : IsAhead text r (r.end p)
  pub start : r.starts (r.end p) ≡ true

cell-ahead : (text : List ℕ) (r : Reading) (p : ℕ) → IsCell text r p → IsAhead text r p
cell-ahead text r p cell =
    let c = r.code p in
    let is = is-kind c cell.scalar in
    let kept = ap (λ v. is_ignored v) (sym is.value) ∙ kept-at (kind_at c) cell.plain in
    record {
      plain = cell.plain;
      class = cell.class;
      value = ap (λ l. value_at (significant l) 0) (scalars-next text p c (r.end p) cell.read)
          ∙ ap (λ l. value_at l 0) (significant-kept c (scalars_on text (r.end p)) kept) ∙ sym is.value;
    }

-- of no run, and so of one byte
pub cell-one : (text : List ℕ) (r : Reading) (p : ℕ) → IsCell text r p → goes_on (r.class p) ≡ false → r.end p ≡ p + 1
cell-one text r p is other =
    ⊎_elim (λ (one : r.end p ≡ p + 1). one)
    (λ (more : goes_on (r.class p) ≡ true). absurd (let e : true ≡ false = sym more ∙ other in let never : ⊥ = cc in never))
    is.size

-- its end is not within it
pub cell-inside : (text : List ℕ) (r : Reading) (p end : ℕ) → IsCell text r p → p < end → goes_on (r.class end) ≡ false → r.end p ≤ end
cell-inside text r p end is less other =
    ⊎_elim
    (λ (inside : end < r.end p).
    let one = cell-one text r p is (ap goes_on (sym (is.same end (omega arith) inside)) ∙ other) in
    absurd (omega (arith, one)))
    (λ (upto : r.end p ≤ end). upto)
    (cases_lt end (r.end p))

-- Of the bytes from one on

abbrev pub code_in : List ℕ → ℕ → ℕ
code_in bytes i = cond (is_first bytes i) (code_of_2 (get_or bytes i 0) (get_or bytes (i + 1) 0))
    (cond (is_long bytes i) (code_of_3 (get_or bytes i 0) (get_or bytes (i + 1) 0) (get_or bytes (i + 2) 0)) (get_or bytes i 0))

-- by what begins there
code-is : (bytes : List ℕ) (i : ℕ) (first long : Bool) → is_first bytes i ≡ first → is_long bytes i ≡ long
    → code_in bytes i ≡ cond first (code_of_2 (get_or bytes i 0) (get_or bytes (i + 1) 0))
    (cond long (code_of_3 (get_or bytes i 0) (get_or bytes (i + 1) 0) (get_or bytes (i + 2) 0)) (get_or bytes i 0))
code-is bytes i first long first_is long_is =
    ap₂ (λ x y. cond x (code_of_2 (get_or bytes i 0) (get_or bytes (i + 1) 0)) (cond y (code_of_3 (get_or bytes i 0) (get_or bytes (i + 1) 0) (get_or bytes (i + 2) 0)) (get_or bytes i 0)))
    first_is long_is

abbrev pub reading : List ℕ → ℕ → Reading
reading text base = record {
  starts = λ q. not (is_inner (drop base text) (q - base));
  code = λ q. code_in (drop base text) (q - base);
  end = λ q. q + size_at (drop base text) (q - base);
  class = λ q. class_at (drop base text) (q - base);
}

pub there : (text : List ℕ) (base q : ℕ) → base ≤ q → get_or (drop base text) (q - base) 0 ≡ slice_index text q
there text base q after = get_or-drop base text (q - base) 0 ∙ ap (λ n. slice_index text n) (let e : base + (q - base) ≡ q = omega arith in e)

-- a byte below 128
low-cell : (text : List ℕ) (base q : ℕ) → base ≤ q → q < length text → ((j : ℕ) → get_or (drop base text) j 0 < 256) → get_or (drop base text) (q - base) 0 < 128
    → IsCell text (reading text base) q
low-cell text base q after inside fit low =
    let r = reading text base in
    let bytes = drop base text in
    let i = q - base in
    let b = slice_index text q in
    let here = there text base q after in
    let none = not-open bytes i (low-open bytes i fit low) in
    let code : r.code q ≡ b = code-is bytes i false false none.0 none.1 ∙ here in
    let end : r.end q ≡ q + 1 = ap (λ n. q + n) (size-is bytes i false false none.0 none.1) in
    let below : b < 128 = omega (arith, here) in
    let is = is-byte b below in
    let same : kind_at b ≡ kind r q = ap kind_at (sym code) in
    record {
      read = subst (λ c. IsReadAt text q c (r.end q)) (sym code) (subst (IsReadAt text q b) (sym end) (one-read text q inside below));
      scalar = omega (arith, code, below);
      plain = ap is_plain (sym same) ∙ is.plain;
      class = low-class bytes i fit low ∙ ap class_of here ∙ is.class ∙ ap kind_class same;
      same = λ p from before. ap r.class (let e : p ≡ q = omega (arith, end, from, before) in e);
      size = inl end;
      return = is.return ∙ ap (λ k. k == 0) same;
      feed = is.feed ∙ ap (λ k. k == 8) same;
      space = is.space ∙ ap (λ k. k == 16) same;
    }

apart : (n k : ℕ) → k < n → (n == k) ≡ false
apart n k less = unless (n == k) (λ same. (let e = eqb-true n k same in omega arith))

-- a byte that is not zero is there
some-inside : (bytes : List ℕ) (i : ℕ) → 128 ≤ get_or bytes i 0 → i < length bytes
some-inside bytes i some =
    ⊎_elim (λ (less : i < length bytes). less)
    (λ (past : length bytes ≤ i). (let none = get_or_past bytes i 0 past in absurd (omega arith)))
    (cases_lt i (length bytes))

-- a letter of more bytes
letter-cell : (text : List ℕ) (base q size code : ℕ) → base ≤ q → 0xC2 ≤ slice_index text q → (reading text base).end q ≡ q + size → (reading text base).code q ≡ code
    → IsReadAt text q code (q + size) → code < 0x11_0000 → kind_at code ≡ 22
    → ((i : ℕ) → q - base ≤ i → i < q - base + size → class_at (drop base text) i ≡ letter_class) → IsCell text (reading text base) q
letter-cell text base q size code after least end code_is read scalar kind_is_letter classes =
    let r = reading text base in
    let kind_is : kind r q ≡ 22 = ap kind_at code_is ∙ kind_is_letter in
    let grows = read.grows in
    let letter = classes (q - base) (omega arith) (omega arith) in
    record {
      read = subst (λ n. IsReadAt text q n (r.end q)) (sym code_is) (subst (IsReadAt text q code) (sym end) read);
      scalar = omega (arith, code_is, scalar);
      plain = ap is_plain kind_is;
      class = letter ∙ ap kind_class (sym kind_is);
      same = λ p from before. classes (p - base) (omega (arith, from)) (omega (arith, end, from, before)) ∙ sym letter;
      size = inr (ap goes_on letter);
      return = apart (slice_index text q) 13 (omega arith) ∙ ap (λ k. k == 0) (sym kind_is);
      feed = apart (slice_index text q) 10 (omega arith) ∙ ap (λ k. k == 8) (sym kind_is);
      space = apart (slice_index text q) 32 (omega arith) ∙ ap (λ k. k == 16) (sym kind_is);
    }

module _ (text : List ℕ) (base q : ℕ) (after : base ≤ q) (fit : (j : ℕ) → get_or (drop base text) j 0 < 256) where
  abbrev bytes : List ℕ
  bytes = drop base text

  abbrev i : ℕ
  i = q - base

  here : get_or bytes i 0 ≡ slice_index text q
  here = there text base q after

  behind : (n : ℕ) → get_or bytes (i + n) 0 ≡ slice_index text (q + n)
  behind n = ap (λ m. get_or bytes m 0) (let e : i + n ≡ q + n - base = omega arith in e) ∙ there text base (q + n) (omega arith)

  -- of two
  first-cell : is_first bytes i ≡ true → size_at bytes i ≡ 2 → IsCell text (reading text base) q
  first-cell first two =
      let is = first-letter bytes i fit first in
      let next = is.next in
      let least = is.least in
      let most = is.most in
      let inside = some-inside bytes (i + 1) next.0 in
      let size = length-drop base text in
      let code = ap₂ code_of_2 here (behind 1) in
      letter-cell text base q 2 (code_of_2 (slice_index text q) (slice_index text (q + 1))) after (omega (arith, here, least))
      (ap (λ n. q + n) two)
      (code-is bytes i true (is_long bytes i) first refl ∙ code)
      (two-read text q (omega (arith, inside, size)) (omega (arith, here, least)) (omega (arith, here, most)) (ap₂ second (sym here) (sym (behind 1)) ∙ is.goes))
      (let second_is = behind 1 in omega (arith, here, second_is, next, most))
      (ap kind_at (sym code) ∙ is.kind)
      (λ j from upto. first-classes bytes i j first from upto)

  -- of three
  long-cell : is_first bytes i ≡ false → is_long bytes i ≡ true → size_at bytes i ≡ 3 → IsCell text (reading text base) q
  long-cell none long three =
      let is = (long-letter bytes i long).1 in
      let lead = is.lead in
      let last = is.last in
      let inside = some-inside bytes (i + 2) last.0 in
      let size = length-drop base text in
      let code : code_of_3 (get_or bytes i 0) (get_or bytes (i + 1) 0) (get_or bytes (i + 2) 0) ≡ code_of_3 (slice_index text q) (slice_index text (q + 1)) (slice_index text (q + 2)) =
      ap₂ (λ b c. code_of_3 b c (get_or bytes (i + 2) 0)) here (behind 1) ∙ ap (λ d. code_of_3 (slice_index text q) (slice_index text (q + 1)) d) (behind 2) in
      let few = is.few in
      letter-cell text base q 3 (code_of_3 (slice_index text q) (slice_index text (q + 1)) (slice_index text (q + 2))) after (omega (arith, here, lead))
      (ap (λ n. q + n) three)
      (code-is bytes i false true none long ∙ code)
      (three-read text q (omega (arith, inside, size)) (omega (arith, here, lead)) (omega (arith, here, lead)) (ap₂ second (sym here) (sym (behind 1)) ∙ is.goes)
      (ap (λ d. continues d) (sym (behind 2)) ∙ is.ends))
      (omega (arith, code, few))
      (ap kind_at (sym code) ∙ is.kind)
      (λ j from upto. long-classes bytes i j long from upto)

  -- whichever it is, where a scalar begins
  cell-there : q < length text → IsPlain bytes i → is_inner bytes i ≡ false → IsCell text (reading text base) q
  cell-there inside is starts =
      ⊎_elim (λ (low : get_or bytes i 0 < 128). low-cell text base q after inside fit low)
      (λ (either : is_either bytes i ≡ true). by_letter bytes i first-cell long-cell
      (λ none other size.
      let closed : is_open bytes i ≡ false = ap₂ (λ x y. (x || y) || is_middle bytes i) none other ∙ middle-inner bytes i starts in
      absurd (let e : true ≡ false = sym either ∙ ap₂ (λ x y. x || y) closed starts in let never : ⊥ = cc in never))) is

nul-value : value_at (significant []) 0 ≡ kind_value (kind_at 0)
unfolding significant
nul-value = sym (ap kind_value nul-kind)

-- the end of the text
none-ahead : (text : List ℕ) (base q : ℕ) → base ≤ q → length text ≤ q → ((j : ℕ) → get_or (drop base text) j 0 < 256) → IsAhead text (reading text base) q
none-ahead text base q after past fit = record {
  plain = ap is_plain kind_is ∙ nul.plain;
  class = low-class bytes i fit low ∙ ap class_of none ∙ nul.class ∙ ap kind_class (sym kind_is);
  value = ap (λ l. value_at (significant l) 0) (scalars-end text q past) ∙ nul-value ∙ ap kind_value (sym kind_is);
}
  where
    bytes : List ℕ
    bytes = drop base text

    i : ℕ
    i = q - base

    none : get_or bytes i 0 ≡ 0
    none = get_or_past bytes i 0 (omega (arith, length-drop base text))

    low : get_or bytes i 0 < 128
    low = omega (arith, none)

    kind_is : kind (reading text base) q ≡ kind_at 0
    kind_is = (let closed = not-open bytes i (low-open bytes i fit low) in ap kind_at (code-is bytes i false false closed.0 closed.1 ∙ none))

    nul : IsByte 0
    nul = is-byte 0 (omega arith)

-- and what is behind it
pub cells-there : (text : List ℕ) (base q : ℕ) → base ≤ q → q < length text → ((j : ℕ) → get_or (drop base text) j 0 < 256) → ArePlain (drop base text) (q - base)
    → (reading text base).starts q ≡ true → AreCells text (reading text base) q
cells-there text base q after within fit are start = record {
  here = here;
  ahead = ⊎_elim (λ (inside : r.end q < length text). cell-ahead text r (r.end q) (cell-there text base (r.end q) (omega arith) fit inside (subst (IsPlain bytes) place are.behind) next))
      (λ (past : length text ≤ r.end q). none-ahead text base (r.end q) (omega arith) past fit)
      (cases_lt (r.end q) (length text));
  start = ap not next;
}
  where
    bytes : List ℕ
    bytes = drop base text

    i : ℕ
    i = q - base

    r : Reading
    r = reading text base

    starts : is_inner bytes i ≡ false
    starts = not-true (is_inner bytes i) start

    here : IsCell text r q
    here = cell-there text base q after fit within are.here starts

    place : i + size_at bytes i ≡ r.end q - base
    place = omega arith

    next : is_inner bytes (r.end q - base) ≡ false
    next = ap (is_inner bytes) (sym place) ∙ next-starts bytes i fit starts
