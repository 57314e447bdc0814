use Rattle.std.proofs.Common.{◌≡◌, inl, inr, ℕ, zero, suc, ◌+◌, ◌*◌, ◌/◌, ◌%◌, ◌^◌, ◌<◌, ◌≤◌, ◌&&◌, ◌||◌, Bool, true, false, not, get_or, nat_le, bit_and, bit_or, leb-false, le-leb, refl, sym, ap, ap₂, subst, ◌∙◌, ⊎_elim, List, arith, w64}
use Rattle.std.specs.Int.{bit_not}
use Rattle.std.proofs.lemmas.Bool.{cases_lt}
use Rattle.std.proofs.lemmas.Nat.{or_lt}
use Rattle.lbk_masks.proofs.BitLemmas.{set-and, set-none, set-not, set-or, set-up, set-up-first}
use Rattle.lbk_masks.specs.Sets.{is_set}
use Rattle.lbk_words.specs.Blocks.{ArePlain, IsPlain, is_either, is_first, is_inner, is_long, is_middle, is_open, size_at}
use Rattle.lbk_words.proofs.Booleans.{or_parts, unless}
use Rattle.lbk_words.proofs.EdgeLemmas.{not-false, set-after}
use Rattle.lbk_words.proofs.LetterLemmas.{by_letter, first-letter, first-open, long-letter, low-inner, low-open, middle-open, not-open, or-true, size-is}
use Rattle.lbk_words.proofs.blocks.wides_of.Goals as goal

below-wide : (byte : ℕ) → nat_le 128 byte ≡ false → byte < 128
below-wide byte none = leb-false 128 byte none

-- the bits a place up are those of the bytes behind
raised : (was is : ℕ → Bool) (bits i : ℕ) → i < 64 → ((j : ℕ) → j < 64 → is_set bits j ≡ was j) → is 0 ≡ false → ((j : ℕ) → is (suc j) ≡ was j)
    → is_set (bits * 2 ^ 1 % 2 ^ 64) i ≡ is i
raised was is bits zero few are none next = set-up-first bits ∙ sym none
raised was is bits (suc i) few are none next = set-up bits i few ∙ are i (omega arith) ∙ sym (next i)

no-stray : (bytes : List ℕ) (i : ℕ) → (nat_le 128 (get_or bytes i 0) && not (is_either bytes i)) ≡ false → IsPlain bytes i
no-stray bytes i none = by (nat_le 128 (get_or bytes i 0)) refl
  where
    by : (wide : Bool) → nat_le 128 (get_or bytes i 0) ≡ wide → IsPlain bytes i
    by false low = inl (below-wide (get_or bytes i 0) low)
    by true wide = inr (not-false (is_either bytes i) (sym (ap (λ b. b && not (is_either bytes i)) wide) ∙ none))

-- no byte is from 128 on
pub returns-then-wide-eq0 : goal.returns-then-wide-eq0
returns-then-wide-eq0 c =
    let bytes = c.args.bytes.now in
    let fit : (i : ℕ) → get_or bytes i 0 < 256 = λ i. (c.type_inv.bytes i).fits in
    let low : (i : ℕ) → i < 64 → get_or bytes i 0 < 128 =
    λ i few. below-wide (get_or bytes i 0) (sym (c.wide-wide.ensures i few) ∙ ap (λ n. is_set n i) c.if-wide-eq0.true ∙ set-none i) in
    let closed : (i : ℕ) → i < 64 → is_open bytes i ≡ false = λ i few. low-open bytes i fit (low i few) in
    record {
      letters = λ i few. set-none i ∙ sym (ap₂ (λ a b. a || b) (closed i few) (low-inner bytes i fit (low i few)));
      inner = λ i few. set-none i ∙ sym (low-inner bytes i fit (low i few));
      plain = λ i few none.
          let begins = not-open bytes i (closed i (omega arith)) in
          let size = size-is bytes i false false begins.0 begins.1 in
          record {
            here = inl (low i (omega arith));
            inside = omega (arith, size);
            behind = inl (low (i + size_at bytes i) (omega (arith, size)));
          };
      ends = refl;
    }

-- a letter of three bytes is of none of two
first-none : (bytes : List ℕ) (i : ℕ) → ((j : ℕ) → get_or bytes j 0 < 256) → is_long bytes i ≡ true → is_first bytes i ≡ false
first-none bytes i fit long = unless (is_first bytes i) (λ is.
    let lead = (long-letter bytes i long).1.lead in
    let most = (first-letter bytes i fit is).most in
    omega (arith, lead))

abbrev is_behind : List ℕ → ℕ → Bool
is_behind bytes zero = false
is_behind bytes (suc i) = is_first bytes i

behind-none : (bytes : List ℕ) (i : ℕ) → ((j : ℕ) → get_or bytes j 0 < 256) → is_long bytes i ≡ true → is_behind bytes i ≡ false
behind-none bytes zero fit long = refl
behind-none bytes (suc i) fit long = unless (is_first bytes i) (λ is.
    let lead = (long-letter bytes (suc i) long).1.lead in
    let next = (first-letter bytes i fit is).next in
    let same = ap (λ n. get_or bytes n 0) (let e : i + 1 ≡ suc i = omega arith in e) in
    omega (arith, lead, next, same))

record IsOther (bytes : List ℕ) (i : ℕ) : Type 0 where
  wide : 128 ≤ get_or bytes i 0
  first : is_first bytes i ≡ false
  behind : is_behind bytes i ≡ false

-- so are all bytes of a letter of three
three-others : (bytes : List ℕ) (i : ℕ) → ((j : ℕ) → get_or bytes j 0 < 256) → is_long bytes i ≡ true → (j : ℕ) → j < 3 → IsOther bytes (i + j)
three-others bytes i fit long j less = ⊎_elim
    (λ (none : j < 1). subst (IsOther bytes) (let e : i ≡ i + j = omega arith in e)
    (record { wide = omega (arith, lead); first = first-none bytes i fit long; behind = behind-none bytes i fit long }))
    (λ (some : 1 ≤ j). ⊎_elim
    (λ (one : j < 2). subst (IsOther bytes) (let e : i + 1 ≡ i + j = omega arith in e)
    (record { wide = next.0; first = low-first (i + 1) next.1; behind = behind-is i ∙ first-none bytes i fit long }))
    (λ (two : 2 ≤ j). subst (IsOther bytes) (let e : i + 2 ≡ i + j = omega arith in e)
    (record {
      wide = last.0;
      first = low-first (i + 2) last.1;
      behind = ap (is_behind bytes) (let e : i + 2 ≡ i + 1 + 1 = omega arith in e) ∙ behind-is (i + 1) ∙ low-first (i + 1) next.1;
    }))
    (cases_lt j 2))
    (cases_lt j 1)
  where
    lead : (0xE1 ≤ get_or bytes i 0) × (get_or bytes i 0 < 0xEE)
    lead = (long-letter bytes i long).1.lead

    next : (128 ≤ get_or bytes (i + 1) 0) × (get_or bytes (i + 1) 0 < 192)
    next = (long-letter bytes i long).1.next

    last : (128 ≤ get_or bytes (i + 2) 0) × (get_or bytes (i + 2) 0 < 192)
    last = (long-letter bytes i long).1.last

    low-first : (k : ℕ) → get_or bytes k 0 < 192 → is_first bytes k ≡ false
    low-first k low = unless (is_first bytes k) (λ is. (let least = (first-letter bytes k fit is).least in omega arith))

    behind-is : (k : ℕ) → is_behind bytes (k + 1) ≡ is_first bytes k
    behind-is k = ap (is_behind bytes) (let e : k + 1 ≡ suc k = omega arith in e)

pub longs_among-longs-requires-clause-others : goal.longs_among-longs-requires-clause-others
longs_among-longs-requires-clause-others c = λ i few is j less.
    let bytes = c.args.bytes.now in
    let fit : (i : ℕ) → get_or bytes i 0 < 256 = λ i. (c.type_inv.bytes i).fits in
    let firsts = c.pairs-firsts.result in
    let seconds = firsts * 2 ^ 1 % 2 ^ 64 in
    let two = bit_or firsts seconds in
    let inside = (long-letter bytes i is).0 in
    let within : i + j < 64 = omega (arith, inside, less) in
    let other = three-others bytes i fit is j less in
    let none : is_set two (i + j) ≡ false =
    set-or firsts seconds (i + j)
    ∙ ap₂ (λ a b. a || b) (c.pairs-firsts.ensures (i + j) within ∙ other.first)
    (raised (is_first bytes) (is_behind bytes) firsts (i + j) within c.pairs-firsts.ensures refl (λ k. refl) ∙ other.behind) in
    set-and c.wide-wide.result (bit_not w64 two) (i + j)
    ∙ ap₂ (λ a b. a && b) (c.wide-wide.ensures (i + j) within ∙ le-leb 128 (get_or bytes (i + j) 0) other.wide)
    (set-not two (i + j) (or_lt 64 firsts seconds (omega arith) (omega arith)) within ∙ ap not none)

pub returns : goal.returns
returns c =
    let bytes = c.args.bytes.now in
    let firsts = c.pairs-firsts.result in
    let longs = c.longs_among-longs.result in
    let middles = longs * 2 ^ 1 % 2 ^ 64 in
    let opens = bit_or (bit_or firsts longs) middles in
    let inner = opens * 2 ^ 1 % 2 ^ 64 in
    let letters = bit_or opens inner in
    let wide = c.wide-wide.result in
    let strays = bit_and wide (bit_not w64 letters) in
    let near = bit_or (bit_or strays (strays / 2 ^ 1)) (2 ^ 63) in
    let cut = bit_or near (bit_and opens (near / 2 ^ 1)) in
    let fits : letters < 2 ^ 64 = or_lt 64 opens inner (or_lt 64 (bit_or firsts longs) middles (or_lt 64 firsts longs (omega arith) (omega arith)) (omega arith)) (omega arith) in
    let opened : (i : ℕ) → i < 64 → is_set opens i ≡ is_open bytes i =
    λ i few. set-or (bit_or firsts longs) middles i
    ∙ ap₂ (λ a b. a || b) (set-or firsts longs i ∙ ap₂ (λ a b. a || b) (c.pairs-firsts.ensures i few) (c.longs_among-longs.ensures i few))
    (raised (is_long bytes) (is_middle bytes) longs i few c.longs_among-longs.ensures refl (λ j. refl)) in
    let behind : (i : ℕ) → i < 64 → is_set inner i ≡ is_inner bytes i = λ i few. raised (is_open bytes) (is_inner bytes) opens i few opened refl (λ j. refl) in
    let either : (i : ℕ) → i < 64 → is_set letters i ≡ is_either bytes i =
    λ i few. set-or opens inner i ∙ ap₂ (λ a b. a || b) (opened i few) (behind i few) in
    let plain : (i : ℕ) → i < 64 → is_set strays i ≡ false → IsPlain bytes i =
    λ i few none. no-stray bytes i
    (sym (set-and wide (bit_not w64 letters) i ∙ ap₂ (λ a b. a && b) (c.wide-wide.ensures i few) (set-not letters i fits few ∙ ap not (either i few))) ∙ none) in
    let apart : (i : ℕ) → is_set near i ≡ false → (is_set strays i ≡ false) × ((is_set strays (i + 1) ≡ false) × (is_set (2 ^ 63) i ≡ false)) =
    λ i none.
    let last = or_parts _ _ (sym (set-or (bit_or strays (strays / 2 ^ 1)) (2 ^ 63) i) ∙ none) in
    let both = or_parts _ _ (sym (set-or strays (strays / 2 ^ 1) i) ∙ last.0) in (both.0, (sym (set-after strays i) ∙ both.1, last.1)) in
    let uncut : (i : ℕ) → i < 64 → is_set cut i ≡ false → (is_set near i ≡ false) × (is_open bytes i ≡ true → is_set near (i + 1) ≡ false) =
    λ i few none.
    let both = or_parts _ _ (sym (set-or near (bit_and opens (near / 2 ^ 1)) i) ∙ none) in
    (both.0, λ is. sym (set-and opens (near / 2 ^ 1) i ∙ ap₂ (λ a b. a && b) (opened i few ∙ is) (set-after near i)) ∙ both.1) in
    record {
      letters = either;
      inner = behind;
      plain = λ i few none.
          let parts = or_parts _ _ (sym (set-or cut (bit_and longs (cut / 2 ^ 1)) i) ∙ none) in
          let here = uncut i (omega arith) parts.0 in
          let long_cut : is_long bytes i ≡ true → is_set cut (i + 1) ≡ false =
          λ is. sym (set-and longs (cut / 2 ^ 1) i ∙ ap₂ (λ a b. a && b) (c.longs_among-longs.ensures i (omega arith) ∙ is) (set-after cut i)) ∙ parts.1 in
          -- by the last byte of the scalar
          let made : (j : ℕ) → i + size_at bytes i ≡ j + 1 → j < 64 → is_set near j ≡ false → ArePlain bytes i =
          λ j place few_j near_none.
          let next = apart j near_none in
          let inside : j + 1 < 64 = ⊎_elim (λ (less : j + 1 < 64). less)
          (λ (past : 64 ≤ j + 1).
          let last : j ≡ 63 = omega arith in
          absurd (let e : true ≡ false = sym (ap (is_set (2 ^ 63)) last) ∙ next.1.1 in let never : ⊥ = cc in never))
          (cases_lt (j + 1) 64) in
          record {
            here = plain i (omega arith) (apart i here.0).0;
            inside = omega (arith, place, inside);
            behind = subst (IsPlain bytes) (sym place) (plain (j + 1) inside next.1.0);
          } in
          by_letter bytes i
          (λ is size. made (i + 1) (omega (arith, size)) (omega arith) (here.1 (first-open bytes i is)))
          (λ none is size.
          let within = (long-letter bytes i is).0 in
          made (i + 2) (omega (arith, size)) (omega arith)
          (ap (is_set near) (let e : i + 2 ≡ i + 1 + 1 = omega arith in e) ∙ (uncut (i + 1) (omega arith) (long_cut is)).1 (middle-open bytes i is)))
          (λ none other size. made i (omega (arith, size)) (omega arith) here.0);
      ends =
          set-or cut (bit_and longs (cut / 2 ^ 1)) 63
          ∙ ap (λ b. b || is_set (bit_and longs (cut / 2 ^ 1)) 63)
          (set-or near (bit_and opens (near / 2 ^ 1)) 63
          ∙ ap (λ b. b || is_set (bit_and opens (near / 2 ^ 1)) 63)
          (set-or (bit_or strays (strays / 2 ^ 1)) (2 ^ 63) 63 ∙ or-true (is_set (bit_or strays (strays / 2 ^ 1)) 63)));
    }
