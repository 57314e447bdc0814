-- Runs of letters, digits and low lines, and what is between them.
use Rattle.std.proofs.Common.{◌≡◌, ℕ, zero, suc, ◌+◌, ◌-◌, ◌<◌, ◌≤◌, Bool, true, false, ◌&&◌, ◌||◌, List, ◌++◌, length, slice_index, take, refl, sym, ap, ap₂, subst, ◌∙◌, ⊎_elim, arith}
use Rattle.std.proofs.Math.ListN.{set}
use Rattle.std.proofs.lemmas.Bool.{cases_lt}
use Rattle.std.proofs.lemmas.List.{append-nil}
use Rattle.unicode_segmentation.specs.Word.{significant, value_at}
use Rattle.lbk_words.specs.declared.step_table.TheConstants.{FIRST_ROWS}
use Rattle.lbk_words.specs.declared.steps.Step.{Step}
use Rattle.lbk_words.specs.declared.word.Word.{Word}
use Rattle.lbk_words.specs.Blocks.{Class, begins, goes_on, is_joined}
use Rattle.lbk_words.specs.Filling.{IsFilled, IsInRow}
use Rattle.lbk_words.specs.Kinds.{kind_at}
use Rattle.lbk_words.specs.Places.{IsFirstPiece}
use Rattle.lbk_words.specs.Rows.{IsStep, answer_number, step_number, told}
use Rattle.lbk_words.specs.Words.{AreRising, scalars_on}
use Rattle.lbk_words.proofs.Booleans.{or_parts}
use Rattle.lbk_words.proofs.ByteLemmas.{IsPassed, first-outside, first-run, is_outside, kind_class, outside-ends, outside-next, outside-word, run-ends, run-joins, run-next, run-passes, run-word, run_row, stepped}
use Rattle.lbk_words.proofs.CellLemmas.{AreCells, IsCell, Reading, cell-inside, cell-one, kind}
use Rattle.lbk_words.proofs.FillLemmas.{boundary-next, rising-word, words-next}
use Rattle.lbk_words.proofs.KindTrie.{is-kind}
use Rattle.lbk_words.proofs.RowLemmas.{few-answers, first-row, step-asked}
use Rattle.lbk_words.proofs.StepLemmas.{filled-part, first-in_row, row-begins, row-ends, row-goes-on}

pub step-plain : (text : List ℕ) (r : Reading) (p row : ℕ) → AreCells text r p → row < 43
    → IsStep row (r.code p) (value_at (significant (scalars_on text (r.end p))) 0) (stepped row (kind r p) (kind r (r.end p)))
step-plain text r p row are few =
    let c = r.code p in
    let far = value_at (significant (scalars_on text (r.end p))) 0 in
    subst (λ v. IsStep row c far (told (step_number (answer_number v) row (kind_at c)))) are.ahead.value
    (step-asked row c (kind_at c) far few (is-kind c are.here.scalar) (few-answers far))

pub first-plain : (text : List ℕ) (r : Reading) (p row : ℕ) → IsCell text r p → slice_index FIRST_ROWS (kind r p) ≡ row → IsInRow text p (r.end p) row
first-plain text r p row is same =
    let c = r.code p in
    subst (IsInRow text p (r.end p)) same
    (first-in_row text p c (r.end p) (slice_index FIRST_ROWS (kind_at c)) is.read (first-row c (kind_at c) (is-kind c is.scalar)))

-- A run

-- a mark between two letters, or between two digits
abbrev marked : Class → Class → Class → Bool
marked before c after = (c.mid_letter && (before.letter && after.letter)) || (c.mid_digit && (before.digit && after.digit))

goes-joined : (before c after : Class) → goes_on c ≡ true → is_joined before c after ≡ true
goes-joined before c after on = ap (λ b. b || marked before c after) on

pub apart-goes : (before c after : Class) → is_joined before c after ≡ false → goes_on c ≡ false
apart-goes before c after apart = (or_parts (goes_on c) (marked before c after) apart).0

-- the scalar behind p, by the bytes beside its first
joined-kinds : (text : List ℕ) (r : Reading) (p : ℕ) → IsCell text r p → AreCells text r (r.end p)
    → is_joined (r.class (r.end p - 1)) (r.class (r.end p)) (r.class (r.end p + 1)) ≡ is_joined (kind_class (kind r p)) (kind_class (kind r (r.end p))) (kind_class (kind r (r.end (r.end p))))
joined-kinds text r p is next =
    let q = r.end p in
    let grows = is.read.grows in
    ⊎_elim
    (λ (one : r.end q ≡ q + 1).
    ap₂ (λ a b. is_joined a b (r.class (q + 1))) (is.same (q - 1) (omega arith) (omega arith) ∙ is.class) next.here.class
    ∙ ap (is_joined (kind_class (kind r p)) (kind_class (kind r q))) (ap r.class (sym one) ∙ next.ahead.class))
    (λ (more : goes_on (r.class q) ≡ true).
    goes-joined (r.class (q - 1)) (r.class q) (r.class (q + 1)) more
    ∙ sym (goes-joined (kind_class (kind r p)) (kind_class (kind r q)) (kind_class (kind r (r.end q))) (ap goes_on (sym next.here.class) ∙ more)))
    next.here.size

run-end : (text : List ℕ) (r : Reading) (x p : ℕ) → IsCell text r p → AreCells text r (r.end p) → goes_on (r.class p) ≡ true
    → is_joined (r.class (r.end p - 1)) (r.class (r.end p)) (r.class (r.end p + 1)) ≡ false → IsInRow text x (r.end p) (run_row (kind r p)) → IsFirstPiece text x (r.end p) true
run-end text r x p is next goes apart part =
    let q = r.end p in
    let row = run_row (kind r p) in
    let cuts = run-ends (kind r p) (kind r q) (kind r (r.end q)) is.plain next.here.plain next.ahead.plain (ap goes_on (sym is.class) ∙ goes) (sym (joined-kinds text r p is next) ∙ apart) in
    subst (IsFirstPiece text x q) (run-word (kind r p))
    (row-ends text x q row (r.code q) (r.end q) (stepped row (kind r q) (kind r (r.end q))) part next.here.read (step-plain text r q row next part.few) cuts)

-- one scalar more of it
run-more : (text : List ℕ) (r : Reading) (x p : ℕ) → IsCell text r p → AreCells text r (r.end p) → goes_on (r.class p) ≡ true
    → is_joined (r.class (r.end p - 1)) (r.class (r.end p)) (r.class (r.end p + 1)) ≡ true → IsInRow text x (r.end p) (run_row (kind r p))
    → IsInRow text x (r.end (r.end p)) (stepped (run_row (kind r p)) (kind r (r.end p)) (kind r (r.end (r.end p)))).next
run-more text r x p is next goes joined part =
    let q = r.end p in
    let row = run_row (kind r p) in
    let on = run-joins (kind r p) (kind r q) (kind r (r.end q)) is.plain next.here.plain next.ahead.plain (ap goes_on (sym is.class) ∙ goes) (sym (joined-kinds text r p is next) ∙ joined) in
    row-goes-on text x q row (r.code q) (r.end q) (stepped row (kind r q) (kind r (r.end q))) part next.here.read (step-plain text r q row next part.few) on

-- a mark within it, and the scalar behind that
run-mark : (text : List ℕ) (r : Reading) (x p next : ℕ) → AreCells text r p → IsPassed next (kind r p) → IsInRow text x p next → IsInRow text x (r.end p) (run_row (kind r p))
run-mark text r x p next are passed part =
    let k = kind r p in
    let a = kind r (r.end p) in
    subst (IsInRow text x (r.end p)) (passed.row a are.ahead.plain)
    (row-goes-on text x p next (r.code p) (r.end p) (stepped next k a) part are.here.read (step-plain text r p next are part.few) (passed.joins a are.ahead.plain))

-- by whether the next scalar is a mark
run-on : (text : List ℕ) (r : Reading) (x p end : ℕ) → IsCell text r p → AreCells text r (r.end p) → r.end p < end → goes_on (r.class p) ≡ true
    → is_joined (r.class (r.end p - 1)) (r.class (r.end p)) (r.class (r.end p + 1)) ≡ true
    → is_joined (r.class (end - 1)) (r.class end) (r.class (end + 1)) ≡ false → IsInRow text x (r.end p) (run_row (kind r p))
    → (goes_on (r.class (r.end p)) ≡ true → IsInRow text x (r.end (r.end p)) (run_row (kind r (r.end p))) → IsFirstPiece text x end true)
    → (r.end (r.end p) < end → goes_on (r.class (r.end (r.end p))) ≡ true
    → (next : ℕ) → IsPassed next (kind r (r.end (r.end p))) → IsInRow text x (r.end (r.end p)) next → IsFirstPiece text x end true)
    → IsFirstPiece text x end true
run-on text r x p end is next inside goes joined apart part one two = by (goes_on (r.class (r.end p))) refl
  where
    q : ℕ
    q = r.end p

    a : ℕ
    a = r.end q

    row : ℕ
    row = (stepped (run_row (kind r p)) (kind r q) (kind r a)).next

    more : IsInRow text x a row
    more = run-more text r x p is next goes joined part

    kinds_go : goes_on (kind_class (kind r p)) ≡ true
    kinds_go = ap goes_on (sym is.class) ∙ goes

    mark_kind : (on : Bool) → goes_on (r.class q) ≡ on → goes_on (kind_class (kind r q)) ≡ on
    mark_kind on that = ap goes_on (sym next.here.class) ∙ that

    by : (on : Bool) → goes_on (r.class q) ≡ on → IsFirstPiece text x end true
    by true on =
        one on (subst (IsInRow text x a)
        (run-next (kind r p) (kind r q) (kind r a) is.plain next.here.plain next.ahead.plain kinds_go (sym (joined-kinds text r p is next) ∙ joined) (mark_kind true on)) more)
    by false mark =
        let passed = run-passes (kind r p) (kind r q) (kind r a) is.plain next.here.plain next.ahead.plain kinds_go (sym (joined-kinds text r p is next) ∙ joined) (mark_kind false mark) in
        let on = ap goes_on next.ahead.class ∙ passed.goes in
        let size = cell-one text r q next.here mark in
        ⊎_elim
        (λ (less : a < end). two less on row passed more)
        (λ (most : end ≤ a).
        let last : end ≡ a = omega arith in
        let there : goes_on (r.class end) ≡ true = ap (λ e. goes_on (r.class e)) last ∙ on in
        absurd (let never : true ≡ false = sym (goes-joined (r.class (end - 1)) (r.class end) (r.class (end + 1)) there) ∙ apart in cc))
        (cases_lt a end)

-- from behind the scalar at p, which is of it, up to the end
pub run : (most n : ℕ) (text : List ℕ) (r : Reading) (x p end : ℕ) → n ≤ most → end ≡ r.end p + n → IsCell text r p → r.starts (r.end p) ≡ true
    → ((q : ℕ) → p < q → q ≤ end → r.starts q ≡ true → AreCells text r q)
    → goes_on (r.class p) ≡ true
    → ((q : ℕ) → p < q → q < end → is_joined (r.class (q - 1)) (r.class q) (r.class (q + 1)) ≡ true)
    → is_joined (r.class (end - 1)) (r.class end) (r.class (end + 1)) ≡ false
    → IsInRow text x (r.end p) (run_row (kind r p)) → IsFirstPiece text x end true
run most zero text r x p end fuel place is start plain goes joined apart part =
    let here : end ≡ r.end p = omega arith in
    let grows = is.read.grows in
    subst (λ e. IsFirstPiece text x e true) (sym here)
    (run-end text r x p is (plain (r.end p) grows (omega arith) start) goes (subst (λ e. is_joined (r.class (e - 1)) (r.class e) (r.class (e + 1)) ≡ false) here apart) part)
run zero (suc n) text r x p end fuel place is start plain goes joined apart part = absurd (omega arith)
run (suc most) (suc n) text r x p end fuel place is start plain goes joined apart part =
    let q = r.end p in
    let a = r.end q in
    let grows = is.read.grows in
    let next = plain q grows (omega arith) start in
    let grows_next = next.here.read.grows in
    let none = apart-goes (r.class (end - 1)) (r.class end) (r.class (end + 1)) apart in
    let upto = cell-inside text r q end next.here (omega arith) none in
    run-on text r x p end is next (omega arith) goes (joined q grows (omega arith)) apart part
    (λ on more. run most (end - a) text r x q end (omega arith) (omega arith) next.here next.start (λ s after before. plain s (omega arith) before) on
    (λ s after before. joined s (omega arith) before) apart more)
    (λ less on mark passed more.
    let behind = plain a (omega arith) (omega arith) next.start in
    let grows_behind = behind.here.read.grows in
    let upto_behind = cell-inside text r a end behind.here less none in
    run most (end - r.end a) text r x a end (omega arith) (omega arith) behind.here behind.start (λ s after before. plain s (omega arith) before) on
    (λ s after before. joined s (omega arith) before) apart (run-mark text r x a mark behind passed more))

-- What is between runs

-- a part that is no word leaves the block as it is
pub filled-over : (text : List ℕ) (start begin at count : ℕ) (out : List Word) → IsFilled text start begin count out → IsFirstPiece text begin at false → IsFilled text start at count out
filled-over text start begin at count out f first = record {
  room = f.room;
  onward = (let on = f.onward in let grows = first.grows in omega arith);
  boundary = boundary-next text start begin at false f.boundary first;
  rising = subst (AreRising start at) (append-nil (take count out)) (rising-word start begin at false (take count out) f.rising first.grows);
  joined = f.joined ∙ ap (λ ws. take count out ++ ws) (words-next text begin at false first);
}

-- a scalar that is of no run
between-on : (text : List ℕ) (r : Reading) (start begin p end count row : ℕ) (out : List Word) → AreCells text r p → goes_on (r.class p) ≡ false
    → IsFilled text start begin count out → IsInRow text begin p row → is_outside row ≡ true
    → ((from next : ℕ) → IsFilled text start from count out → IsInRow text from (r.end p) next → is_outside next ≡ true → IsFilled text start end count out)
    → IsFilled text start end count out
between-on text r start begin p end count row out are other f part outside on = by step.cuts refl
  where
    step : Step
    step = stepped row (kind r p) (kind r (r.end p))

    is_step : IsStep row (r.code p) (value_at (significant (scalars_on text (r.end p))) 0) step
    is_step = step-plain text r p row are part.few

    still : is_outside step.next ≡ true
    still = outside-next row (kind r p) (kind r (r.end p)) outside are.here.plain are.ahead.plain (ap goes_on (sym are.here.class) ∙ other)

    by : (cuts : Bool) → step.cuts ≡ cuts → IsFilled text start end count out
    by true cuts =
        let ends = row-ends text begin p row (r.code p) (r.end p) step part are.here.read is_step cuts in
        on p step.next (filled-over text start begin p count out f (subst (IsFirstPiece text begin p) (outside-word row outside) ends))
        (row-begins text p row (r.code p) (r.end p) step are.here.read is_step cuts) still
    by false goes = on begin step.next f (row-goes-on text begin p row (r.code p) (r.end p) step part are.here.read is_step goes) still

-- scalars that are of no run, up to the next one
pub between : (n : ℕ) (text : List ℕ) (r : Reading) (start begin p end count row : ℕ) (out : List Word) → end ≡ p + n → r.starts p ≡ true
    → ((q : ℕ) → p ≤ q → q ≤ end → r.starts q ≡ true → AreCells text r q)
    → ((q : ℕ) → p ≤ q → q < end → goes_on (r.class q) ≡ false) → begins (r.class end) ≡ true
    → IsFilled text start begin count out → IsInRow text begin p row → is_outside row ≡ true → IsFilled text start end count out
between zero text r start begin p end count row out place starts plain others first f part outside =
    let here : end ≡ p = omega arith in
    let are = plain p (omega arith) (omega arith) starts in
    let cuts = outside-ends row (kind r p) (kind r (r.end p)) outside are.here.plain are.ahead.plain
    (ap begins (sym are.here.class) ∙ subst (λ e. begins (r.class e) ≡ true) here first) in
    let ends = row-ends text begin p row (r.code p) (r.end p) (stepped row (kind r p) (kind r (r.end p))) part are.here.read (step-plain text r p row are part.few) cuts in
    subst (λ e. IsFilled text start e count out) (sym here) (filled-over text start begin p count out f (subst (IsFirstPiece text begin p) (outside-word row outside) ends))
between (suc n) text r start begin p end count row out place starts plain others first f part outside =
    let are = plain p (omega arith) (omega arith) starts in
    let other = others p (omega arith) (omega arith) in
    let size = cell-one text r p are.here other in
    between-on text r start begin p end count row out are other f part outside
    (λ from next filled more still. between n text r start from (r.end p) end count next out (omega arith) are.start (λ q after upto. plain q (omega arith) upto)
    (λ q after before. others q (omega arith) before) first filled more still)

-- from a boundary on
pub to-run : (text : List ℕ) (r : Reading) (start p end count : ℕ) (out : List Word) → p ≤ end → r.starts p ≡ true
    → ((q : ℕ) → p ≤ q → q ≤ end → r.starts q ≡ true → AreCells text r q)
    → ((q : ℕ) → p ≤ q → q < end → goes_on (r.class q) ≡ false) → begins (r.class end) ≡ true → IsFilled text start p count out → IsFilled text start end count out
to-run text r start p end count out before starts plain others first f = ⊎_elim
    (λ (less : p < end).
    let are = plain p (omega arith) (omega arith) starts in
    let other = others p (omega arith) less in
    let size = cell-one text r p are.here other in
    between (end - r.end p) text r start p (r.end p) end count (slice_index FIRST_ROWS (kind r p)) out (omega arith) are.start (λ q after upto. plain q (omega arith) upto)
    (λ q after upto. others q (omega arith) upto) first f (first-plain text r p (slice_index FIRST_ROWS (kind r p)) are.here refl)
    (first-outside (kind r p) are.here.plain (ap goes_on (sym are.here.class) ∙ other)))
    (λ (most : end ≤ p). (let same : p ≡ end = omega arith in subst (λ e. IsFilled text start e count out) same f))
    (cases_lt p end)

-- a run from its first scalar on
pub whole-run : (text : List ℕ) (r : Reading) (x end : ℕ) → x < end → ((q : ℕ) → x ≤ q → q ≤ end → r.starts q ≡ true → AreCells text r q)
    → r.starts x ≡ true → begins (r.class x) ≡ true
    → ((q : ℕ) → x < q → q < end → is_joined (r.class (q - 1)) (r.class q) (r.class (q + 1)) ≡ true)
    → is_joined (r.class (end - 1)) (r.class end) (r.class (end + 1)) ≡ false → IsFirstPiece text x end true
whole-run text r x end grows plain starts first joined apart =
    let are = plain x (omega arith) (omega arith) starts in
    let upto = cell-inside text r x end are.here grows (apart-goes (r.class (end - 1)) (r.class end) (r.class (end + 1)) apart) in
    let part = first-plain text r x (run_row (kind r x)) are.here (first-run (kind r x) are.here.plain (ap begins (sym are.here.class) ∙ first)) in
    run (end - r.end x) (end - r.end x) text r x x end (omega arith) (omega arith) are.here are.start (λ q after before. plain q (omega arith) before)
    (ap (λ b. b || (r.class x).low_line) first) joined apart part

-- the next run is a word
pub run-written : (text : List ℕ) (r : Reading) (start p x end count : ℕ) (out : List Word) → IsFilled text start p count out → count < length out → p ≤ x → x < end
    → r.starts p ≡ true → r.starts x ≡ true
    → ((q : ℕ) → p ≤ q → q ≤ end → r.starts q ≡ true → AreCells text r q) → ((q : ℕ) → p ≤ q → q < x → goes_on (r.class q) ≡ false) → begins (r.class x) ≡ true
    → ((q : ℕ) → x < q → q < end → is_joined (r.class (q - 1)) (r.class q) (r.class (q + 1)) ≡ true)
    → is_joined (r.class (end - 1)) (r.class end) (r.class (end + 1)) ≡ false
    → IsFilled text start end (count + 1) (set out count (record { start = x; end = end }))
run-written text r start p x end count out f some before grows starts starts_x plain others first joined apart =
    filled-part text start x end count true out (to-run text r start p x count out before starts (λ q after upto. plain q after (omega arith)) others first f) some
    (whole-run text r x end grows (λ q after upto. plain q (omega arith) upto) starts_x first joined apart)
