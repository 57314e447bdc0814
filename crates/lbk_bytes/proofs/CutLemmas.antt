-- What more bytes make of the last ones that came.
use Rattle.std.proofs.Common.{◌≡◌, ℕ, ◌<◌, ◌≤◌, ◌||◌, ◌&&◌, Bool, true, false, nat_lt, List, ◌++◌, length, drop, refl, sym, ap, subst, ◌∙◌, ⊎_elim, length-append, length-drop, slice_index, arith}
use Rattle.std.proofs.lemmas.Bool.{and_parts, cases_lt, false≢true, ltb-true}
use Rattle.std.proofs.lemmas.Bool.Decides.{nat_tests}
use Rattle.std.proofs.lemmas.List.{drop-append-le, get_or_append_left}
use Rattle.bstr.specs.Utf8.{Decoded, bad, continues, decoded, decoded_by, good, lead_len, second}
use Rattle.bstr.proofs.lemmas.PieceLemmas.{by-shape, decoded_by-cut, size-bounds}
use Rattle.lbk_bytes.specs.Open.{could_go_on, could_go_on_by}
use Rattle.lbk_bytes.proofs.PieceLemmas.{Reads}

leads-two : (b : ℕ) → 0xC2 ≤ b → b ≤ 0xF4 → 2 ≤ lead_len b
leads-two b low high = grind (arith, nat_tests)

leads-three : (b : ℕ) → 0xE0 ≤ b → b ≤ 0xF4 → 3 ≤ lead_len b
leads-three b low high = grind (arith, nat_tests)

leads-four : (b : ℕ) → 0xF0 ≤ b → b ≤ 0xF4 → 4 ≤ lead_len b
leads-four b low high = grind (arith, nat_tests)

-- the tests one after the other
open-by : (one two few three some : Bool) → one ≡ true → (two ≡ false → few ≡ true) → (two ≡ false → three ≡ false → some ≡ true)
    → (one && (two || (few && (three || some)))) ≡ true
open-by true true few three some one second third = refl
open-by true false true true some one second third = refl
open-by true false true false true one second third = refl
open-by true false true false false one second third = absurd (false≢true (third refl refl))
open-by true false false three some one second third = absurd (false≢true (second refl))
open-by false two few three some one second third = absurd (false≢true one)

lt-test : (a b : ℕ) → a < b → nat_lt a b ≡ true
lt-test a b less = grind (arith, nat_tests)

no-test : (a b : ℕ) → b ≤ a → nat_lt a b ≡ false
no-test a b least = grind (arith, nat_tests)

none_good : (n code size : ℕ) → bad n ≡ good code size → ⊥
none_good n code size is = (let no = ap (λ (p : Decoded). p.char) is in cc)

ge-test : (a b : ℕ) → nat_lt a b ≡ false → b ≤ a
ge-test a b fails = grind (arith, nat_tests)

-- fewer bytes than the first of them announces, with those that there are in their ranges
goes-on : (n b c d : ℕ) → n < lead_len b → (2 ≤ n → second b c ≡ true) → (3 ≤ n → continues d ≡ true) → could_go_on_by n b c d ≡ true
goes-on n b c d few second_c third_d =
    open-by (nat_lt n (lead_len b)) (nat_lt n 2) (second b c) (nat_lt n 3) (continues d) (lt-test n (lead_len b) few)
    (λ two. second_c (ge-test n 2 two)) (λ two three. third_d (ge-test n 3 three))

-- what can't go on is no longer with more behind it
record Sized (b c' d' size : ℕ) : Type 0 where
  lead : 2 ≤ size → size ≤ lead_len b
  sec : 2 ≤ size → second b c' ≡ true
  third : 4 ≤ size → continues d' ≡ true

stays-by : (n b c d c' d' size : ℕ) → 0 < n → (1 < n → c' ≡ c) → (2 < n → d' ≡ d) → could_go_on_by n b c d ≡ false
    → size ≤ 4 → Sized b c' d' size → size ≤ n
stays-by n b c d c' d' size some second_c third_d closed high s =
    ⊎_elim
    (λ (short : n < size).
    let lead = s.lead (omega arith) in
    let goes = goes-on n b c d (omega arith) (λ two. ap (second b) (sym (second_c (omega arith))) ∙ s.sec (omega arith))
    (λ three. ap continues (sym (third_d (omega arith))) ∙ s.third (omega arith)) in
    absurd (false≢true (sym closed ∙ goes)))
    (λ (enough : size ≤ n). enough)
    (cases_lt n size)

-- a piece of one byte, or of fewer than four that the first announces
one-sized : (b c' d' : ℕ) (p q : Decoded) → q.size ≡ 1 → p ≡ q → Sized b c' d' p.size
one-sized b c' d' p q one same =
    let size : p.size ≡ 1 = ap (λ (r : Decoded). r.size) same ∙ one in
    record { lead = λ more. absurd (omega arith); sec = λ more. absurd (omega arith); third = λ more. absurd (omega arith) }

few-sized : (b c' d' : ℕ) (p q : Decoded) → q.size < 4 → second b c' ≡ true → q.size ≤ lead_len b → p ≡ q → Sized b c' d' p.size
few-sized b c' d' p q few next lead same =
    let size : p.size ≡ q.size = ap (λ (r : Decoded). r.size) same in
    record { lead = λ more. omega arith; sec = λ more. next; third = λ more. absurd (omega arith) }

sized : (m b c' d' e' : ℕ) → 0 < m → Sized b c' d' (decoded_by m b c' d' e').size
sized m b c' d' e' some = by-shape m b c' d' e'
    (λ h. absurd (omega arith))
    (λ h. one-sized b c' d' _ _ refl h.2)
    (λ h. one-sized b c' d' _ _ refl h.3)
    (λ h. one-sized b c' d' _ _ refl h.2)
    (λ h. one-sized b c' d' _ _ refl h.4)
    (λ h. one-sized b c' d' _ _ refl h.4)
    (λ h. few-sized b c' d' _ _ (omega arith) h.3 (leads-two b (omega arith) (omega arith)) h.4)
    (λ h. few-sized b c' d' _ _ (omega arith) h.3 (leads-two b (omega arith) (omega arith)) h.5)
    (λ h. few-sized b c' d' _ _ (omega arith) h.3 (leads-two b (omega arith) (omega arith)) h.5)
    (λ h. few-sized b c' d' _ _ (omega arith) h.3 (leads-three b (omega arith) (omega arith)) h.5)
    (λ h. few-sized b c' d' _ _ (omega arith) h.3 (leads-three b (omega arith) (omega arith)) h.6)
    (λ h. few-sized b c' d' _ _ (omega arith) h.3 (leads-three b (omega arith) (omega arith)) h.6)
    (λ h. let size : (decoded_by m b c' d' e').size ≡ 4 = ap (λ (p : Decoded). p.size) h.6 in
    let leads = leads-four b h.1 h.2 in record { lead = λ more. omega arith; sec = λ more. h.3; third = λ more. h.4 })

-- it is the same with more behind it
pub closed-more : (bs more : List ℕ) → 0 < length bs → could_go_on bs ≡ false → decoded (bs ++ more) ≡ decoded bs
closed-more bs more some closed =
    let all = bs ++ more in
    let long = length-append bs more in
    let at : (k : ℕ) → k < length bs → slice_index all k ≡ slice_index bs k = λ k l. get_or_append_left bs more 0 k l in
    let by_first : could_go_on_by (length bs) (slice_index all 0) (slice_index bs 1) (slice_index bs 2) ≡ false =
    ap (λ b. could_go_on_by (length bs) b (slice_index bs 1) (slice_index bs 2)) (at 0 some) ∙ closed in
    let sized_all = sized (length all) (slice_index all 0) (slice_index all 1) (slice_index all 2) (slice_index all 3) (omega arith) in
    let most = size-bounds (length all) (slice_index all 0) (slice_index all 1) (slice_index all 2) (slice_index all 3) (omega arith) in
    let fits : (decoded all).size ≤ length bs =
    stays-by (length bs) (slice_index all 0) (slice_index bs 1) (slice_index bs 2) (slice_index all 1) (slice_index all 2) (decoded all).size some
    (at 1) (at 2) by_first most.1 sized_all in
    sym (subst (λ v. decoded_by (length bs) v (slice_index bs 1) (slice_index bs 2) (slice_index bs 3) ≡ decoded all) (at 0 some)
    (decoded_by-cut (length bs) (length all) (slice_index all 0) (slice_index all 1) (slice_index all 2) (slice_index all 3)
    (slice_index bs 1) (slice_index bs 2) (slice_index bs 3) fits (omega arith) some (λ l. sym (at 1 l)) (λ l. sym (at 2 l)) (λ l. sym (at 3 l))))

-- so it is where no more could belong to it
short-closed : (bs : List ℕ) → lead_len (slice_index bs 0) ≤ length bs → could_go_on bs ≡ false
short-closed bs enough =
    ap (λ b. b && (nat_lt (length bs) 2 || (second (slice_index bs 0) (slice_index bs 1) && (nat_lt (length bs) 3 || continues (slice_index bs 2)))))
    (no-test (length bs) (lead_len (slice_index bs 0)) enough)

leads-most : (b : ℕ) → lead_len b ≤ 4
leads-most b = grind (arith, nat_tests)

-- four bytes are enough
pub four-more : (bs more : List ℕ) → 4 ≤ length bs → decoded (bs ++ more) ≡ decoded bs
four-more bs more four =
    let most = leads-most (slice_index bs 0) in
    closed-more bs more (omega arith) (short-closed bs (omega arith))

-- what could go on has at most three
pub open-few : (bs : List ℕ) → could_go_on bs ≡ true → length bs < 4
open-few bs goes =
    let most = leads-most (slice_index bs 0) in
    let few = ltb-true (length bs) (lead_len (slice_index bs 0)) (and_parts _ _ goes).0 in
    omega arith

-- a scalar that is whole
good-leads : (n b c d e code size : ℕ) → decoded_by n b c d e ≡ good code size → lead_len b ≤ n
good-leads n b c d e code size is = by-shape n b c d e
    (λ h. absurd (let no = sym h.1 ∙ is in none_good 0 code size no))
    (λ h. grind (arith, nat_tests))
    (λ h. absurd (none_good 1 code size (sym h.3 ∙ is)))
    (λ h. absurd (none_good 1 code size (sym h.2 ∙ is)))
    (λ h. absurd (none_good 1 code size (sym h.4 ∙ is)))
    (λ h. absurd (none_good 1 code size (sym h.4 ∙ is)))
    (λ h. grind (arith, nat_tests))
    (λ h. absurd (none_good 2 code size (sym h.5 ∙ is)))
    (λ h. absurd (none_good 2 code size (sym h.5 ∙ is)))
    (λ h. grind (arith, nat_tests))
    (λ h. absurd (none_good 3 code size (sym h.6 ∙ is)))
    (λ h. absurd (none_good 3 code size (sym h.6 ∙ is)))
    (λ h. (let most = leads-most b in omega arith))

pub good-more : (bs more : List ℕ) (code size : ℕ) → 0 < length bs → decoded bs ≡ good code size → decoded (bs ++ more) ≡ good code size
good-more bs more code size some is =
    closed-more bs more some (short-closed bs (good-leads (length bs) (slice_index bs 0) (slice_index bs 1) (slice_index bs 2) (slice_index bs 3) code size is)) ∙ is

-- a scalar that stands in a text stands there whatever follows the text
pub reads-more : (text more : List ℕ) (at code size : ℕ) → at < length text → Reads text at code size → Reads (text ++ more) at code size
reads-more text more at code size inside r =
    let left = length-drop at text in
    let long = length-append text more in
    record {
      read = ap decoded (drop-append-le at text more (omega arith)) ∙ good-more (drop at text) more code size (omega arith) r.read;
      scalar = r.scalar;
      below = r.below;
      some = r.some;
      few = r.few;
      within = (let within = r.within in omega arith);
    }
