-- Bits that tell where runs begin and end.
use Rattle.std.proofs.Common.{◌≡◌, ℕ, zero, suc, ◌+◌, ◌-◌, ◌*◌, ◌/◌, ◌%◌, ◌^◌, ◌<◌, ◌≤◌, Bool, true, false, not, ◌&&◌, ◌==◌, nat_le, nat_lt, List, refl, sym, ap, ap₂, ◌∙◌, ⊎_elim, leb-true, ltb-true, arith, w64, bit_and}
use Rattle.std.specs.Bool.{beq}
use Rattle.std.specs.Int.{bit_at, bit_not}
use Rattle.std.specs.Int.Bits.{bit_xor}
use Rattle.std.proofs.lemmas.Bool.{and_left, and_parts, and_right, cases_lt, le-leb, le-ltb, lt-leb, lt-ltb, not-true}
use Rattle.std.proofs.lemmas.Nat.Bits.{bit_at-lt, bit_at_xor}
use Rattle.ucd_table.proofs.Facts.{same_from_beq}
use Rattle.ucd_table.proofs.TrieCheck.{all_below, all_below-at}
use Rattle.lbk_masks.proofs.BitLemmas.{of-bits, set-and, set-down, set-not, set-up, set-up-first}
use Rattle.lbk_masks.specs.Bits.{AreCleared, AreKeptFrom, IsLowest}
use Rattle.lbk_masks.specs.Sets.{is_in, is_set}
use Rattle.lbk_words.specs.declared.blocks.Edges.{Edges}
use Rattle.lbk_words.specs.declared.blocks.TheConstants.{HALVES}
use Rattle.lbk_words.specs.Blocks.{AreEdges, begins_at, class_of, differ, runs_at, runs_before}

-- Bits

differ-one : (m n : ℕ) → m < 2 → n < 2 → ((m + n) % 2 == 1) ≡ differ (m == 1) (n == 1)
differ-one = of-bits (λ m n. ((m + n) % 2 == 1) ≡ differ (m == 1) (n == 1)) refl refl refl refl

pub set-xor : (a b i : ℕ) → is_set (bit_xor a b) i ≡ differ (is_set a i) (is_set b i)
set-xor a b i = ap (λ n. n == 1) (bit_at_xor a b i) ∙ differ-one (bit_at a i) (bit_at b i) (bit_at-lt a i) (bit_at-lt b i)

-- the bits a place up, and a place down
pub set-before : (n i : ℕ) → i < 64 → is_set (n * 2 ^ 1 % 2 ^ 64) i ≡ (nat_lt 0 i && is_set n (i - 1))
set-before n zero few = set-up-first n
set-before n (suc i) few =
    set-up n i few ∙ ap (is_set n) (let e : i ≡ suc i - 1 = omega arith in e) ∙ sym (ap (λ b. b && is_set n (suc i - 1)) (lt-ltb 0 (suc i) (omega arith)))

pub set-after : (n i : ℕ) → is_set (n / 2 ^ 1) i ≡ is_set n (i + 1)
set-after n i = set-down n i ∙ ap (is_set n) (let e : suc i ≡ i + 1 = omega arith in e)

-- Sets of bytes

abbrev sets_right : ℕ → Bool
sets_right byte =
    let c = class_of byte in
    beq (is_in HALVES 3 byte) c.letter && (beq (is_in HALVES 4 byte) c.digit && (beq (is_in HALVES 8 byte) c.low_line && (beq (is_in HALVES 80 byte) c.mid_letter
    && (beq (is_in HALVES 176 byte) c.mid_digit && (not (c.mid_letter && c.letter) && not (c.mid_digit && c.digit))))))

all_right : all_below sets_right 256 ≡ true
unfolding all_below
all_right = refl

-- what the halves of a byte tell
pub record IsClassed (byte : ℕ) : Type 0 where
  pub letter : is_in HALVES 3 byte ≡ (class_of byte).letter
  pub digit : is_in HALVES 4 byte ≡ (class_of byte).digit
  pub low_line : is_in HALVES 8 byte ≡ (class_of byte).low_line
  pub mid_letter : is_in HALVES 80 byte ≡ (class_of byte).mid_letter
  pub mid_digit : is_in HALVES 176 byte ≡ (class_of byte).mid_digit
  pub no_letter : ((class_of byte).mid_letter && (class_of byte).letter) ≡ false
  pub no_digit : ((class_of byte).mid_digit && (class_of byte).digit) ≡ false

pub is-classed : (byte : ℕ) → byte < 256 → IsClassed byte
is-classed byte few =
    let letter = and_parts _ _ (all_below-at sets_right 256 byte all_right few) in
    let digit = and_parts _ _ letter.1 in
    let low = and_parts _ _ digit.1 in
    let mid = and_parts _ _ low.1 in
    let other = and_parts _ _ mid.1 in
    let apart = and_parts _ _ other.1 in
    record {
      letter = same_from_beq _ _ letter.0;
      digit = same_from_beq _ _ digit.0;
      low_line = same_from_beq _ _ low.0;
      mid_letter = same_from_beq _ _ mid.0;
      mid_digit = same_from_beq _ _ other.0;
      no_letter = not-true _ apart.0;
      no_digit = not-true _ apart.1;
    }

-- before the first byte of a block is nothing, and the class of the first byte itself does as well
mark-between : (i : ℕ) (mid before after : Bool) → (i ≡ 0 → (mid && before) ≡ false) → (mid && ((nat_lt 0 i && before) && after)) ≡ (mid && (before && after))
mark-between zero mid before after apart = by mid before (apart refl)
  where
    by : (m b : Bool) → (m && b) ≡ false → (m && ((false && b) && after)) ≡ (m && (b && after))
    by false b e = refl
    by true false e = refl
    by true true e = absurd (let never : ⊥ = cc in never)
mark-between (suc i) mid before after apart = ap (λ b. mid && ((b && before) && after)) (lt-ltb 0 (suc i) (omega arith))

-- bits that are between two of the others stand for bytes between two of the other class
pub mid-at : (found bits others : ℕ) (mid other : ℕ → Bool) (i : ℕ) → i < 63
    → is_set found i ≡ (is_set bits i && ((nat_lt 0 i && is_set others (i - 1)) && is_set others (i + 1)))
    → is_set bits i ≡ mid i → ((j : ℕ) → j < 64 → is_set others j ≡ other j) → (mid i && other i) ≡ false
    → is_set found i ≡ (mid i && (other (i - 1) && other (i + 1)))
mid-at found bits others mid other i few is mids same apart =
    is
    ∙ ap₂ (λ a b. a && b) mids (ap₂ (λ a b. (nat_lt 0 i && a) && b) (same (i - 1) (omega arith)) (same (i + 1) (omega arith)))
    ∙ mark-between i (mid i) (other (i - 1)) (other (i + 1)) (λ zero_is. ap (λ n. mid i && other n) (let e : i - 1 ≡ i = omega arith in e) ∙ apart)

-- Edges

pub not-false : (b : Bool) → not b ≡ false → b ≡ true
not-false true e = refl
not-false false e = absurd (let never : ⊥ = cc in never)

-- the bits that are kept from the first on, and the same a place up
kept-run : (bytes : List ℕ) (first runs kept i : ℕ) → ((j : ℕ) → j < 63 → is_set runs j ≡ runs_at bytes j) → AreKeptFrom first runs kept → i < 63
    → is_set kept i ≡ (nat_le first i && runs_at bytes i)
kept-run bytes first runs kept i are since few =
    ⊎_elim
    (λ (before : i < first). since.none i before ∙ sym (ap (λ b. b && runs_at bytes i) (lt-leb first i before)))
    (λ (after : first ≤ i). since.same i after (omega arith) ∙ are i few ∙ sym (ap (λ b. b && runs_at bytes i) (le-leb first i after)))
    (cases_lt i first)

kept-before : (bytes : List ℕ) (first runs kept i : ℕ) → ((j : ℕ) → j < 63 → is_set runs j ≡ runs_at bytes j) → AreKeptFrom first runs kept → i < 63
    → is_set (kept * 2 ^ 1 % 2 ^ 64) i ≡ runs_before bytes first i
kept-before bytes first runs kept zero are since few =
    set-up-first kept ∙ sym (and_left (nat_lt first zero) (runs_at bytes (zero - 1)) (le-ltb first zero (omega arith)))
kept-before bytes first runs kept (suc i) are since few =
    set-up kept i (omega arith) ∙ kept-run bytes first runs kept i are since (omega arith)
    ∙ ap₂ (λ b n. b && runs_at bytes n) (same-order first i) (let e : i ≡ suc i - 1 = omega arith in e)
  where
    same-order : (f j : ℕ) → nat_le f j ≡ nat_lt f (suc j)
    same-order f j =
        ⊎_elim (λ (less : j < f). lt-leb f j less ∙ sym (le-ltb f (suc j) (omega arith))) (λ (most : f ≤ j). le-leb f j most ∙ sym (lt-ltb f (suc j) (omega arith))) (cases_lt j f)

-- before the first no bit differs
apart-before : (bytes : List ℕ) (first i : ℕ) → differ (nat_le first i && runs_at bytes i) (runs_before bytes first i) ≡ (nat_le first i && differ (runs_at bytes i) (runs_before bytes first i))
apart-before bytes first i =
    ⊎_elim
    (λ (before : i < first).
    ap₂ differ (and_left (nat_le first i) (runs_at bytes i) (lt-leb first i before)) (and_left (nat_lt first i) (runs_at bytes (i - 1)) (le-ltb first i (omega arith)))
    ∙ sym (and_left (nat_le first i) (differ (runs_at bytes i) (runs_before bytes first i)) (lt-leb first i before)))
    (λ (after : first ≤ i).
    ap (λ b. differ (b && runs_at bytes i) (runs_before bytes first i)) (le-leb first i after)
    ∙ sym (ap (λ b. b && differ (runs_at bytes i) (runs_before bytes first i)) (le-leb first i after)))
    (cases_lt i first)

pub edge-at : (bytes : List ℕ) (first runs kept i : ℕ) → ((j : ℕ) → j < 63 → is_set runs j ≡ runs_at bytes j) → AreKeptFrom first runs kept → i < 63
    → is_set (bit_xor kept (kept * 2 ^ 1 % 2 ^ 64)) i ≡ (nat_le first i && differ (runs_at bytes i) (runs_before bytes first i))
edge-at bytes first runs kept i are since few =
    set-xor kept (kept * 2 ^ 1 % 2 ^ 64) i ∙ ap₂ differ (kept-run bytes first runs kept i are since few) (kept-before bytes first runs kept i are since few)
    ∙ apart-before bytes first i

-- a run that begins with another byte than a letter or a digit is left
pub others-at : (bytes : List ℕ) (first runs kept starts i : ℕ) → ((j : ℕ) → j < 63 → is_set runs j ≡ runs_at bytes j) → AreKeptFrom first runs kept → starts < 2 ^ 64
    → first ≤ i → i < 63 → is_set (bit_and (bit_and kept (bit_not w64 (kept * 2 ^ 1 % 2 ^ 64))) (bit_not w64 starts)) i ≡ false
    → runs_at bytes i ≡ true → runs_before bytes first i ≡ false → is_set starts i ≡ true
others-at bytes first runs kept starts i are since fits after few none run apart =
    let up = kept * 2 ^ 1 % 2 ^ 64 in
    let whole : is_set (bit_and (bit_and kept (bit_not w64 up)) (bit_not w64 starts)) i ≡ not (is_set starts i) =
    set-and (bit_and kept (bit_not w64 up)) (bit_not w64 starts) i
    ∙ ap₂ (λ x y. x && y)
    (set-and kept (bit_not w64 up) i
    ∙ ap₂ (λ x y. x && y) (kept-run bytes first runs kept i are since few ∙ ap₂ (λ x y. x && y) (le-leb first i after) run)
    (set-not up i (omega arith) (omega arith) ∙ ap not (kept-before bytes first runs kept i are since few ∙ apart)))
    (set-not starts i fits (omega arith)) in
    not-false (is_set starts i) (sym whole ∙ none)

-- The first run that has an end

abbrev pub edge_bit : List ℕ → ℕ → ℕ → ℕ → Bool
edge_bit bytes first stop i = nat_lt i stop && (nat_le first i && differ (runs_at bytes i) (runs_before bytes first i))

set-edge : (bytes : List ℕ) (first stop i : ℕ) → edge_bit bytes first stop i ≡ true → (i < stop) × (first ≤ i) × (differ (runs_at bytes i) (runs_before bytes first i) ≡ true)
set-edge bytes first stop i is =
    let less = and_parts _ _ is in
    let after = and_parts _ _ less.1 in (ltb-true i stop less.0, leb-true first i after.0, after.1)

unset-edge : (bytes : List ℕ) (first stop i : ℕ) → i < stop → first ≤ i → edge_bit bytes first stop i ≡ false → differ (runs_at bytes i) (runs_before bytes first i) ≡ false
unset-edge bytes first stop i less after none =
    sym (ap₂ (λ a b. a && (b && differ (runs_at bytes i) (runs_before bytes first i))) (lt-ltb i stop less) (le-leb first i after)) ∙ none

differ-false : (a b : Bool) → b ≡ false → differ a b ≡ a
differ-false true b e = ap not e
differ-false false b e = e

differ-true : (a b : Bool) → b ≡ true → differ a b ≡ not a
differ-true true b e = ap not e
differ-true false b e = e

pub before-first : (bytes : List ℕ) (first : ℕ) → runs_before bytes first first ≡ false
before-first bytes first = and_left (nat_lt first first) (runs_at bytes (first - 1)) (le-ltb first first (omega arith))

before-later : (bytes : List ℕ) (first i : ℕ) → first < i → runs_before bytes first i ≡ runs_at bytes (i - 1)
before-later bytes first i less = ap (λ b. b && runs_at bytes (i - 1)) (lt-ltb first i less)

-- no edge, no run
no-run : (n : ℕ) (bytes : List ℕ) (first begin stop i : ℕ) → i ≡ first + n → i < begin → begin ≤ stop
    → ((j : ℕ) → j < begin → edge_bit bytes first stop j ≡ false) → runs_at bytes i ≡ false
no-run zero bytes first begin stop i place less few none =
    let here : i ≡ first = omega arith in
    sym (differ-false (runs_at bytes i) (runs_before bytes first i) (ap (runs_before bytes first) here ∙ before-first bytes first))
    ∙ unset-edge bytes first stop i (omega arith) (omega arith) (none i less)
no-run (suc n) bytes first begin stop i place less few none =
    let earlier = no-run n bytes first begin stop (i - 1) (omega arith) (omega arith) few none in
    sym (differ-false (runs_at bytes i) (runs_before bytes first i) (before-later bytes first i (omega arith) ∙ earlier))
    ∙ unset-edge bytes first stop i (omega arith) (omega arith) (none i less)

-- and a run goes on
still-run : (n : ℕ) (bytes : List ℕ) (first begin end stop i : ℕ) → i ≡ begin + n → i < end → end ≤ stop → first ≤ begin → runs_at bytes begin ≡ true
    → ((j : ℕ) → begin < j → j < end → edge_bit bytes first stop j ≡ false) → runs_at bytes i ≡ true
still-run zero bytes first begin end stop i place less few after run none = ap (runs_at bytes) (let e : i ≡ begin = omega arith in e) ∙ run
still-run (suc n) bytes first begin end stop i place less few after run none =
    let earlier = still-run n bytes first begin end stop (i - 1) (omega arith) (omega arith) few after run none in
    not-false (runs_at bytes i)
    (sym (differ-true (runs_at bytes i) (runs_before bytes first i) (before-later bytes first i (omega arith) ∙ earlier))
    ∙ unset-edge bytes first stop i (omega arith) (omega arith) (none i (omega arith) less))

pub record IsRun (bytes : List ℕ) (first begin end : ℕ) (found next : Edges) : Type 0 where
  pub after : first ≤ begin
  pub grows : begin < end
  pub inside : end < found.stop
  pub none : (i : ℕ) → first ≤ i → i < begin → runs_at bytes i ≡ false
  pub starts : begins_at bytes begin ≡ true
  pub joined : (i : ℕ) → begin < i → i < end → runs_at bytes i ≡ true
  pub apart : runs_at bytes end ≡ false
  pub others : AreEdges bytes end next

pub first-run_found : (bytes : List ℕ) (first begin end left behind next stop : ℕ) → AreEdges bytes first (record { edges = left; stop = stop }) → 0 < left → begin < 64
    → IsLowest left begin → AreCleared left begin behind → 0 < behind → end < 64 → IsLowest behind end → AreCleared behind end next
    → IsRun bytes first begin end (record { edges = left; stop = stop }) (record { edges = next; stop = stop })
first-run_found bytes first begin end left behind next stop are some few lowest cleared more few_end lowest_end cleared_end = record {
  after = edge.1;
  grows = grows;
  inside = edge_end.0;
  none = none;
  starts = are.begins begin edge.1 edge.0 run before;
  joined = joined;
  apart = apart;
  others = record {
    few = are.few;
    fit = are.fit;
    edges = edges;
    plain = λ i after less. are.plain i (let before = edge.1 in omega (arith, grows, after)) less;
    begins = λ i after less runs not_before. ⊎_elim
        (λ (later : end < i).
        let before = edge.1 in
        are.begins i (omega (arith, grows, after)) less runs (before-later bytes first i (omega (arith, grows, later)) ∙ sym (before-later bytes end i later) ∙ not_before))
        (λ (most : i ≤ end).
        let here : i ≡ end = omega arith in
        absurd (let e : true ≡ false = sym runs ∙ ap (runs_at bytes) here ∙ apart in let never : ⊥ = cc in never))
        (cases_lt end i);
  };
}
  where
    edge : (begin < stop) × (first ≤ begin) × (differ (runs_at bytes begin) (runs_before bytes first begin) ≡ true)
    edge = set-edge bytes first stop begin (sym (are.edges begin few) ∙ lowest.set some)

    none : (i : ℕ) → first ≤ i → i < begin → runs_at bytes i ≡ false
    none i after less =
        let inside = edge.0 in
        no-run (i - first) bytes first begin stop i (omega arith) less (omega arith) (λ j before. sym (are.edges j (omega arith)) ∙ lowest.none j before)

    before : runs_before bytes first begin ≡ false
    before =
        let after = edge.1 in
        ⊎_elim (λ (later : first < begin). before-later bytes first begin later ∙ none (begin - 1) (omega arith) (omega arith))
        (λ (most : begin ≤ first). (let here : begin ≡ first = omega arith in ap (runs_before bytes first) here ∙ before-first bytes first)) (cases_lt first begin)

    run : runs_at bytes begin ≡ true
    run = sym (differ-false (runs_at bytes begin) (runs_before bytes first begin) before) ∙ edge.2

    other : end ≡ begin → ⊥
    other same = let e : true ≡ false = sym (lowest_end.set more) ∙ ap (is_set behind) same ∙ cleared.gone in cc

    grows : begin < end
    grows =
        ⊎_elim
        (λ (less : end < begin).
        absurd (let e : true ≡ false = sym (lowest_end.set more) ∙ cleared.same end few_end other ∙ lowest.none end less in let never : ⊥ = cc in never))
        (λ (most : begin ≤ end). ⊎_elim (λ (less : begin < end). less) (λ (same : end ≤ begin). absurd (other (omega arith))) (cases_lt begin end))
        (cases_lt end begin)

    left-end : is_set left end ≡ true
    left-end = sym (cleared.same end few_end other) ∙ lowest_end.set more

    edge_end : (end < stop) × (first ≤ end) × (differ (runs_at bytes end) (runs_before bytes first end) ≡ true)
    edge_end = set-edge bytes first stop end (sym (are.edges end few_end) ∙ left-end)

    joined : (i : ℕ) → begin < i → i < end → runs_at bytes i ≡ true
    joined i later less =
        let inside = edge_end.0 in
        still-run (i - begin) bytes first begin end stop i (omega arith) less (omega arith) edge.1 run
        (λ j after less_end. sym (are.edges j (omega arith)) ∙ sym (cleared.same j (omega arith) (λ same. omega (arith, after))) ∙ lowest_end.none j less_end)

    apart : runs_at bytes end ≡ false
    apart =
        let after = edge.1 in
        let inside = edge_end.0 in
        let run_before = before-later bytes first end (omega (arith, grows))
        ∙ still-run (end - 1 - begin) bytes first begin end stop (end - 1) (omega (arith, grows)) (omega (arith, grows)) (omega arith) after run
        (λ j later less_end. sym (are.edges j (omega arith)) ∙ sym (cleared.same j (omega arith) (λ same. omega (arith, later))) ∙ lowest_end.none j less_end) in
        not-true (runs_at bytes end) (sym (differ-true (runs_at bytes end) (runs_before bytes first end) run_before) ∙ edge_end.2)

    edges : (i : ℕ) → i < 64 → is_set next i ≡ edge_bit bytes end stop i
    edges i few_i =
        ⊎_elim
        (λ (less : i < end).
        cleared_end.same i few_i (λ same. omega (arith, less)) ∙ lowest_end.none i less
        ∙ sym (and_right (nat_lt i stop) (nat_le end i && differ (runs_at bytes i) (runs_before bytes end i)) (and_left (nat_le end i) (differ (runs_at bytes i) (runs_before bytes end i)) (lt-leb end i less))))
        (λ (most : end ≤ i).
        ⊎_elim
        (λ (later : end < i).
        cleared_end.same i few_i (λ same. omega (arith, later)) ∙ cleared.same i few_i (λ same. omega (arith, grows, later)) ∙ are.edges i few_i
        ∙ ap₂ (λ a b. nat_lt i stop && (a && differ (runs_at bytes i) b)) (le-leb first i (let after = edge.1 in omega (arith, grows, later)) ∙ sym (le-leb end i most))
        (before-later bytes first i (let after = edge.1 in omega (arith, grows, later)) ∙ sym (before-later bytes end i later)))
        (λ (upto : i ≤ end).
        let here : i ≡ end = omega arith in
        let same_run = ap (runs_at bytes) here ∙ apart in
        ap (is_set next) here ∙ cleared_end.gone
        ∙ sym (and_right (nat_lt i stop) (nat_le end i && differ (runs_at bytes i) (runs_before bytes end i))
        (and_right (nat_le end i) (differ (runs_at bytes i) (runs_before bytes end i))
        (differ-false (runs_at bytes i) (runs_before bytes end i) (ap (runs_before bytes end) here ∙ before-first bytes end) ∙ same_run))))
        (cases_lt end i))
        (cases_lt i end)
