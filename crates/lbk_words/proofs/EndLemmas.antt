-- The next end of a part, as bits tell it.
use Rattle.std.proofs.Common.{◌≡◌, inl, inr, ℕ, zero, suc, ◌+◌, ◌-◌, ◌<◌, ◌≤◌, Bool, true, false, not, ◌&&◌, ◌||◌, nat_lt, List, drop, get_or, length, slice_index, ltb-true, refl, sym, ap, ap₂, ◌∙◌, ⊎_elim, arith}
use Rattle.std.proofs.lemmas.Bool.{and_left, and_parts, and_right, cases_lt, le-ltb, lt-ltb, not-true}
use Rattle.lbk_masks.specs.Bits.{AreCleared, IsLowest}
use Rattle.lbk_masks.specs.Sets.{is_set}
use Rattle.lbk_words.specs.Blocks.{begins, class_at, goes_on, is_joined, is_inner, runs_at}
use Rattle.lbk_words.specs.Ends.{AreEnds, goes_on_at, is_pair}
use Rattle.lbk_words.specs.Places.{IsFirstPiece}
use Rattle.lbk_words.proofs.Booleans.{or_parts}
use Rattle.lbk_words.proofs.CellLemmas.{AreCells, Reading, cells-there, reading, there}
use Rattle.lbk_words.proofs.EdgeLemmas.{not-false}
use Rattle.lbk_words.proofs.LetterLemmas.{low-class}
use Rattle.lbk_words.proofs.PairLemmas.{other-part, pair-first, pair-low, pair-second}
use Rattle.lbk_words.proofs.RunLemmas.{apart-goes, whole-run}
use Rattle.lbk_words.proofs.TakenLemmas.{runs-there, starts-here}

left-off : (a b : Bool) → (a && b) ≡ false → b ≡ true → a ≡ false
left-off false b none is = refl
left-off true b none is = absurd (let e : true ≡ false = sym is ∙ none in let never : ⊥ = cc in never)

-- what a byte that goes on with its part tells
pair-behind : (bytes : List ℕ) (i : ℕ) → goes_on_at bytes i ≡ true → runs_at bytes (i - 1) ≡ false → is_pair (get_or bytes (i - 1) 0) (get_or bytes i 0) ≡ true
pair-behind bytes i goes other = sym (ap (λ b. (b && runs_at bytes i) || is_pair (get_or bytes (i - 1) 0) (get_or bytes i 0)) other) ∙ goes

-- two bytes that are one part are of no run
pair-apart : (bytes : List ℕ) (i : ℕ) → ((j : ℕ) → get_or bytes j 0 < 256) → is_pair (get_or bytes (i - 1) 0) (get_or bytes i 0) ≡ true
    → (runs_at bytes (i - 1) ≡ false) × (runs_at bytes i ≡ false)
pair-apart bytes i fit is =
    let b = get_or bytes (i - 1) 0 in
    let c = get_or bytes i 0 in
    let low = pair-low b c is in (
      ap (λ x. is_joined (class_at bytes (i - 1 - 1)) x (class_at bytes (i - 1 + 1))) (low-class bytes (i - 1) fit low.0)
          ∙ pair-first b c is (class_at bytes (i - 1 - 1)) (class_at bytes (i - 1 + 1)),
      ap (λ x. is_joined (class_at bytes (i - 1)) x (class_at bytes (i + 1))) (low-class bytes i fit low.1) ∙ pair-second b c is (class_at bytes (i - 1)) (class_at bytes (i + 1)),
    )

run-behind : (bytes : List ℕ) (i : ℕ) → ((j : ℕ) → get_or bytes j 0 < 256) → goes_on_at bytes i ≡ true → runs_at bytes (i - 1) ≡ true → runs_at bytes i ≡ true
run-behind bytes i fit goes run = by (runs_at bytes i) refl
  where
    pair : Bool
    pair = is_pair (get_or bytes (i - 1) 0) (get_or bytes i 0)

    by : (b : Bool) → runs_at bytes i ≡ b → runs_at bytes i ≡ true
    by true e = e
    by false e =
        let paired : pair ≡ true = sym (ap₂ (λ a b. (a && b) || pair) run e) ∙ goes in
        absurd (let never : true ≡ false = sym run ∙ (pair-apart bytes i fit paired).0 in let no : ⊥ = cc in no)

-- all bytes of a part are of the run that it begins with, or none is
runs-on : (n : ℕ) (bytes : List ℕ) (first end i : ℕ) → ((j : ℕ) → get_or bytes j 0 < 256) → i ≡ first + n → i < end → runs_at bytes first ≡ true
    → ((j : ℕ) → first < j → j < end → goes_on_at bytes j ≡ true) → runs_at bytes i ≡ true
runs-on zero bytes first end i fit place less run goes = ap (runs_at bytes) (let e : i ≡ first = omega arith in e) ∙ run
runs-on (suc n) bytes first end i fit place less run goes =
    run-behind bytes i fit (goes i (omega arith) less) (runs-on n bytes first end (i - 1) fit (omega arith) (omega arith) run goes)

none-on : (n : ℕ) (bytes : List ℕ) (first end i : ℕ) → ((j : ℕ) → get_or bytes j 0 < 256) → i ≡ first + n → i < end → runs_at bytes first ≡ false
    → ((j : ℕ) → first < j → j < end → goes_on_at bytes j ≡ true) → runs_at bytes i ≡ false
none-on zero bytes first end i fit place less other goes = ap (runs_at bytes) (let e : i ≡ first = omega arith in e) ∙ other
none-on (suc n) bytes first end i fit place less other goes =
    let before = none-on n bytes first end (i - 1) fit (omega arith) (omega arith) other goes in
    (pair-apart bytes i fit (pair-behind bytes i (goes i (omega arith) less) before)).1

-- the lowest bit is the end of the part, and the others are the ends behind it
pub record IsEnd (text : List ℕ) (base first stop end next : ℕ) : Type 0 where
  pub grows : first < end
  pub inside : end < stop
  pub part : (is_word : Bool) × IsFirstPiece text (base + first) (base + end) is_word
  pub rest : AreEnds (drop base text) end stop next

pub next-end : (text : List ℕ) (base first stop left end next : ℕ) → AreEnds (drop base text) first stop left → base + stop ≤ length text
    → 0 < left → end < 64
    → IsLowest left end → AreCleared left end next → IsEnd text base first stop end next
next-end text base first stop left end next are within some few_end lowest cleared = record {
  grows = grows;
  inside = inside;
  part = by (runs_at bytes first) refl;
  rest = record {
    few = are.few;
    fit = are.fit;
    told = told;
    plain = λ i after less. are.plain i (omega (arith, grows)) less;
    begins = λ i after less run why. are.begins i (omega (arith, grows)) less run
        (inr (⊎_elim
        (λ (same : i ≡ end). ap (λ n. runs_at bytes (n - 1)) same ∙ left-off (runs_at bytes (end - 1)) (runs_at bytes end) stops.0 (sym (ap (runs_at bytes) same) ∙ run))
        (λ (other : runs_at bytes (i - 1) ≡ false). other) why));
  };
}
  where
    bytes : List ℕ
    bytes = drop base text

    bit : (end < stop) × (first < end) × (goes_on_at bytes end ≡ false)
    bit =
        let less = and_parts _ _ (sym (are.told end few_end) ∙ lowest.set some) in
        let after = and_parts _ _ less.1 in (ltb-true end stop less.0, ltb-true first end after.0, not-true (goes_on_at bytes end) after.1)

    inside : end < stop
    inside = bit.0

    grows : first < end
    grows = bit.1

    stops : ((runs_at bytes (end - 1) && runs_at bytes end) ≡ false) × (is_pair (get_or bytes (end - 1) 0) (get_or bytes end 0) ≡ false)
    stops = or_parts _ _ bit.2

    goes : (j : ℕ) → first < j → j < end → goes_on_at bytes j ≡ true
    goes j after less =
        not-false (goes_on_at bytes j)
        (sym (ap₂ (λ a b. a && (b && not (goes_on_at bytes j))) (lt-ltb j stop (omega (arith, inside))) (lt-ltb first j after))
        ∙ sym (are.told j (omega arith)) ∙ lowest.none j less)

    r : Reading
    r = reading text base

    plain : (q : ℕ) → base + first ≤ q → q ≤ base + end → r.starts q ≡ true → AreCells text r q
    plain q from upto start =
        let less : q - base < stop = omega (arith, inside) in
        cells-there text base q (omega arith) (omega (arith, inside)) are.fit
        (are.plain (q - base) (omega arith) less) start

    here : base + first - base ≡ first
    here = omega arith

    place : base + end - base ≡ end
    place = omega arith

    starts : r.starts (base + first) ≡ true
    starts = ap (λ i. not (is_inner bytes i)) here ∙ ap not (starts-here bytes first (λ is. are.begins first (omega arith) (omega (arith, grows, inside)) is (inl refl)))

    by : (is : Bool) → runs_at bytes first ≡ is → (is_word : Bool) × IsFirstPiece text (base + first) (base + end) is_word
    by true is =
        let begun = and_parts (begins (class_at bytes first)) (not (is_inner bytes first)) (are.begins first (omega arith) (omega (arith, grows, inside)) is (inl refl)) in
        let last = runs-on (end - 1 - first) bytes first end (end - 1) are.fit (omega (arith, grows)) (omega (arith, grows)) is goes in
        let apart : runs_at bytes end ≡ false = sym (ap (λ b. b && runs_at bytes end) last) ∙ stops.0 in (
          true,
          whole-run text r (base + first) (base + end) (omega (arith, grows)) plain starts (ap (λ i. begins (class_at bytes i)) here ∙ begun.0)
              (λ q after before. sym (runs-there text base q (omega arith)) ∙ runs-on (q - base - first) bytes first end (q - base) are.fit (omega arith) (omega arith) is goes)
              (sym (runs-there text base (base + end) (omega (arith, grows))) ∙ ap (runs_at bytes) place ∙ apart),
        )
    by false is =
        other-part text r (base + first) (base + end) (omega (arith, grows)) starts plain (ap (λ i. goes_on (class_at bytes i)) here ∙ goes-none first is)
        (λ q after before.
        let pair = pair-behind bytes (q - base) (goes (q - base) (omega arith) (omega arith)) (none-on (q - base - 1 - first) bytes first end (q - base - 1) are.fit (omega arith) (omega arith) is goes) in (
          ap₂ is_pair (pair-left q (omega arith)) (sym (there text base q (omega arith))) ∙ pair,
          goes-none (q - base) (pair-apart bytes (q - base) are.fit pair).1,
        ))
        (ap₂ is_pair (pair-left (base + end) (omega (arith, grows))) (sym (there text base (base + end) (omega arith)))
        ∙ ap (λ n. is_pair (get_or bytes (n - 1) 0) (get_or bytes n 0)) place ∙ stops.1)
      where
        goes-none : (i : ℕ) → runs_at bytes i ≡ false → goes_on (class_at bytes i) ≡ false
        goes-none i none = apart-goes (class_at bytes (i - 1)) (class_at bytes i) (class_at bytes (i + 1)) none

        pair-left : (q : ℕ) → base < q → slice_index text (q - 1) ≡ get_or bytes (q - base - 1) 0
        pair-left q after = sym (there text base (q - 1) (omega arith)) ∙ ap (λ n. get_or bytes n 0) (let same : q - 1 - base ≡ q - base - 1 = omega arith in same)

    told : (i : ℕ) → i < 64 → is_set next i ≡ (nat_lt i stop && (nat_lt end i && not (goes_on_at bytes i)))
    told i few = ⊎_elim
        (λ (later : end < i).
        cleared.same i few (λ same. omega (arith, later)) ∙ are.told i few
        ∙ ap (λ a. nat_lt i stop && (a && not (goes_on_at bytes i))) (lt-ltb first i (omega (arith, grows, later)) ∙ sym (lt-ltb end i later)))
        (λ (most : i ≤ end).
        unset i most few
        ∙ sym (and_right (nat_lt i stop) (nat_lt end i && not (goes_on_at bytes i)) (and_left (nat_lt end i) (not (goes_on_at bytes i)) (le-ltb end i most))))
        (cases_lt end i)
      where
        unset : (i : ℕ) → i ≤ end → i < 64 → is_set next i ≡ false
        unset i most few = ⊎_elim
            (λ (less : i < end). cleared.same i few (λ same. omega (arith, less)) ∙ lowest.none i less)
            (λ (upto : end ≤ i). (let same : i ≡ end = omega arith in ap (is_set next) same ∙ cleared.gone))
            (cases_lt i end)
