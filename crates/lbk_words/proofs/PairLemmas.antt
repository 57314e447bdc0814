-- Parts of scalars that are of no run.
use Rattle.std.proofs.Common.{◌≡◌, ◌⊎◌, inl, inr, ℕ, zero, suc, ◌+◌, ◌-◌, ◌<◌, ◌≤◌, Bool, true, false, ◌&&◌, ◌||◌, ◌==◌, List, slice_index, refl, sym, ap, ap₂, subst, ◌∙◌, ⊎_elim, eqb-true, arith}
use Rattle.std.proofs.lemmas.Bool.{and_parts}
use Rattle.lbk_words.specs.Blocks.{Class, class_of, goes_on, is_joined}
use Rattle.lbk_words.specs.Ends.{is_pair}
use Rattle.lbk_words.specs.Filling.{IsInRow}
use Rattle.lbk_words.specs.Places.{IsFirstPiece}
use Rattle.lbk_words.specs.Rows.{row_word}
use Rattle.lbk_words.proofs.ByteLemmas.{first-other, other-ends, other-pair, other_row, pair_kinds, stepped}
use Rattle.lbk_words.proofs.CellLemmas.{AreCells, IsCell, Reading, cell-one, kind}
use Rattle.lbk_words.proofs.RunLemmas.{first-plain, step-plain}
use Rattle.lbk_words.proofs.StepLemmas.{row-ends, row-goes-on}

-- the two bytes of a pair
pair-is : (b c : ℕ) → is_pair b c ≡ true → ((b ≡ 13) × (c ≡ 10)) ⊎ ((b ≡ 32) × (c ≡ 32))
pair-is b c is = by (b == 13 && c == 10) refl
  where
    by : (first : Bool) → (b == 13 && c == 10) ≡ first → ((b ≡ 13) × (c ≡ 10)) ⊎ ((b ≡ 32) × (c ≡ 32))
    by true e = (let both = and_parts (b == 13) (c == 10) e in inl (eqb-true b 13 both.0, eqb-true c 10 both.1))
    by false e =
        let both = and_parts (b == 32) (c == 32) (sym (ap (λ x. x || (b == 32 && c == 32)) e) ∙ is) in
        inr (eqb-true b 32 both.0, eqb-true c 32 both.1)

pub pair-low : (b c : ℕ) → is_pair b c ≡ true → (b < 128) × (c < 128)
pair-low b c is =
    ⊎_elim (λ (both : (b ≡ 13) × (c ≡ 10)). (let one = both.0 in let two = both.1 in (omega arith, omega arith)))
    (λ (both : (b ≡ 32) × (c ≡ 32)). (let one = both.0 in let two = both.1 in (omega arith, omega arith))) (pair-is b c is)

-- neither is of a run
pub pair-first : (b c : ℕ) → is_pair b c ≡ true → (x y : Class) → is_joined x (class_of b) y ≡ false
pair-first b c is x y =
    ⊎_elim (λ (both : (b ≡ 13) × (c ≡ 10)). ap (λ n. is_joined x (class_of n) y) both.0) (λ (both : (b ≡ 32) × (c ≡ 32)). ap (λ n. is_joined x (class_of n) y) both.0) (pair-is b c is)

pub pair-second : (b c : ℕ) → is_pair b c ≡ true → (x y : Class) → is_joined x (class_of c) y ≡ false
pair-second b c is x y =
    ⊎_elim (λ (both : (b ≡ 13) × (c ≡ 10)). ap (λ n. is_joined x (class_of n) y) both.1) (λ (both : (b ≡ 32) × (c ≡ 32)). ap (λ n. is_joined x (class_of n) y) both.1) (pair-is b c is)

pair-kinds : (text : List ℕ) (r : Reading) (p q : ℕ) → IsCell text r p → IsCell text r q → is_pair (slice_index text p) (slice_index text q) ≡ pair_kinds (kind r p) (kind r q)
pair-kinds text r p q x y = ap₂ (λ a b. a || b) (ap₂ (λ a b. a && b) x.return y.feed) (ap₂ (λ a b. a && b) x.space y.space)

-- from behind the scalar at p, up to the end of its part
others : (n : ℕ) (text : List ℕ) (r : Reading) (x p end : ℕ) → end ≡ p + 1 + n → IsCell text r p → r.starts (r.end p) ≡ true
    → ((q : ℕ) → p < q → q ≤ end → r.starts q ≡ true → AreCells text r q) → goes_on (r.class p) ≡ false
    → ((q : ℕ) → p < q → q < end → (is_pair (slice_index text (q - 1)) (slice_index text q) ≡ true) × (goes_on (r.class q) ≡ false))
    → is_pair (slice_index text (end - 1)) (slice_index text end) ≡ false
    → IsInRow text x (r.end p) (other_row (kind r p)) → (is_word : Bool) × IsFirstPiece text x end is_word
others zero text r x p end place is start plain other pairs apart part =
    let q = r.end p in
    let size = cell-one text r p is other in
    let here : end ≡ q = omega arith in
    let next = plain q (omega arith) (omega arith) start in
    let row = other_row (kind r p) in
    let lone : is_pair (slice_index text p) (slice_index text q) ≡ false =
    ap₂ (λ m n. is_pair (slice_index text m) (slice_index text n)) (let e : p ≡ end - 1 = omega arith in e) (sym here) ∙ apart in
    let cuts = other-ends (kind r p) (kind r q) (kind r (r.end q)) is.plain next.here.plain next.ahead.plain
    (ap goes_on (sym is.class) ∙ other) (sym (pair-kinds text r p q is next.here) ∙ lone) in (
      row_word row,
      subst (λ e. IsFirstPiece text x e (row_word row)) (sym here)
          (row-ends text x q row (r.code q) (r.end q) (stepped row (kind r q) (kind r (r.end q))) part next.here.read
          (step-plain text r q row next part.few) cuts),
    )
others (suc n) text r x p end place is start plain other pairs apart part =
    let q = r.end p in
    let size = cell-one text r p is other in
    let next = plain q (omega arith) (omega arith) start in
    let row = other_row (kind r p) in
    let both = pairs q (omega arith) (omega arith) in
    let pair : is_pair (slice_index text p) (slice_index text q) ≡ true =
    ap (λ m. is_pair (slice_index text m) (slice_index text q)) (let e : p ≡ q - 1 = omega arith in e) ∙ both.0 in
    let paired = other-pair (kind r p) (kind r q) (kind r (r.end q)) is.plain next.here.plain next.ahead.plain
    (ap goes_on (sym is.class) ∙ other) (sym (pair-kinds text r p q is next.here) ∙ pair) in
    let more = row-goes-on text x q row (r.code q) (r.end q) (stepped row (kind r q) (kind r (r.end q))) part next.here.read
    (step-plain text r q row next part.few) paired.joins in
    others n text r x q end (omega arith) next.here next.start (λ s after upto. plain s (omega arith) upto) both.1
    (λ s after before. pairs s (omega arith) before) apart (subst (IsInRow text x (r.end q)) paired.row more)

-- the part that a scalar of no run begins
pub other-part : (text : List ℕ) (r : Reading) (p end : ℕ) → p < end → r.starts p ≡ true → ((q : ℕ) → p ≤ q → q ≤ end → r.starts q ≡ true → AreCells text r q)
    → goes_on (r.class p) ≡ false
    → ((q : ℕ) → p < q → q < end → (is_pair (slice_index text (q - 1)) (slice_index text q) ≡ true) × (goes_on (r.class q) ≡ false))
    → is_pair (slice_index text (end - 1)) (slice_index text end) ≡ false
    → (is_word : Bool) × IsFirstPiece text p end is_word
other-part text r p end grows starts plain other pairs apart =
    let are = plain p (omega arith) (omega arith) starts in
    others (end - (p + 1)) text r p p end (omega arith) are.here are.start (λ q after upto. plain q (omega arith) upto) other pairs apart
    (first-plain text r p (other_row (kind r p)) are.here (first-other (kind r p) are.here.plain (ap goes_on (sym are.here.class) ∙ other)))
