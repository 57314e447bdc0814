-- All positions so far have their verdict, but for one that waits.
use Rattle.std.proofs.Common.{◌≡◌, ◌≢◌, ℕ, suc, ◌+◌, ◌<◌, ◌≤◌, Bool, true, false, cond, ◌||◌, not, Option, Some}
use Rattle.std.proofs.Common.{None, List, [], ◌∷◌, ◌++◌, length, set, reverse, append_assoc, refl, sym, ap, subst, ◌∙◌}
use Rattle.std.proofs.Common.{inl, inr, arith}
use Rattle.std.specs.List.{slice_get}
use Rattle.std.specs.Option.{option_map, ForSome}
use Rattle.std.proofs.lemmas.Bool.{and_parts, cases_eq, false≢true, or_right}
use Rattle.std.proofs.lemmas.List.{length-set, length-reverse, reverse-reverse, append-nil}
use Rattle.lbk_uax14.specs.declared.cells.Cell.{Cell}
use Rattle.lbk_values.specs.declared.profile.Profile.{Profile}
use Rattle.lbk_values.specs.declared.profile.Profile.TheVariants.{First, Second}
use Rattle.lbk_uax14.specs.declared.verdicts.Verdict.{Verdict}
use Rattle.lbk_uax14.specs.Answers.{count_of, written}
use Rattle.lbk_uax14.specs.Classes.{hard, is, mark, QU}
use Rattle.lbk_uax14.specs.Units.{heads, nearest}
use Rattle.lbk_uax14.specs.Held.{any_matches, before_15b, is_held, answer_at, late_at, now_at, unanswered}
use Rattle.lbk_uax14.specs.Held.{unanswered_before}
use Rattle.lbk_uax14.specs.Rules.{rule_list}
use Rattle.lbk_uax14.specs.Sides.{Side, closing, is_final}
use Rattle.lbk_uax14.specs.Verdict.{verdict_between_in, verdict_in}
use Rattle.lbk_uax14.proofs.FactsLemmas.{QU-apart}
use Rattle.lbk_uax14.proofs.HeldLemmas.{is_held-chain}
use Rattle.lbk_uax14.proofs.MachineLemmas.{reverse-snoc, verdict_in-append}
use Rattle.lbk_uax14.proofs.WritingLemmas.{slice_get-set_same, slice_get-set_other}

-- the first n places hold their value, but for the one that is open; count: how many were written
pub record Covers (value : ℕ → Verdict) (list : List Verdict) (count n : ℕ) (still : Option ℕ) : Type 0 where
  pub each : (k : ℕ) → k < n → still ≢ Some k → slice_get list k ≡ Some (value k)
  pub counted : count + count_of still ≡ n

pub some-same : (a b : ℕ) → Some a ≡ Some b → a ≡ b
some-same a b e = cc

none-some : (k : ℕ) → None ≡ Some k → ⊥
none-some k e = cc

-- the open place is written
pub Covers-answered : (value : ℕ → Verdict) (list : List Verdict) (count n p : ℕ) → p < length list
    → Covers value list count n (Some p) → Covers value (set list p (value p)) (count + 1) n None
Covers-answered value list count n p within covers = record {
  each = λ k below _.
      elim (cases_eq k p) [
        | inl same ↦ ap (λ j. slice_get (set list p (value p)) j) same ∙ slice_get-set_same list p (value p) within
            ∙ ap (λ j. Some (value j)) (sym same)
        | inr other ↦ slice_get-set_other list p k (value p) other
            ∙ covers.each k below (λ e. other (sym (some-same p k e)))
      ];
  counted = omega (arith, covers.counted);
}

-- the next place is written
pub Covers-next : (value : ℕ → Verdict) (list : List Verdict) (count n : ℕ) (still : Option ℕ) → n < length list
    → Covers value list count n still → Covers value (set list n (value n)) (count + 1) (n + 1) still
Covers-next value list count n still within covers = record {
  each = λ k below apart.
      elim (cases_eq k n) [
        | inl same ↦ ap (λ j. slice_get (set list n (value n)) j) same ∙ slice_get-set_same list n (value n) within
            ∙ ap (λ j. Some (value j)) (sym same)
        | inr other ↦ slice_get-set_other list n k (value n) other ∙ covers.each k (omega arith) apart
      ];
  counted = omega (arith, covers.counted);
}

-- the next place is left open
pub Covers-open : (value : ℕ → Verdict) (list : List Verdict) (count n : ℕ)
    → Covers value list count n None → Covers value list count (n + 1) (Some n)
Covers-open value list count n covers = record {
  each = λ k below apart.
      let other : k ≢ n = λ e. apart (ap Some (sym e)) in
      covers.each k (omega arith) (λ e. none-some k e);
  counted = omega (arith, covers.counted);
}

-- as many answers by another count
Covers-recount : (value : ℕ → Verdict) (list : List Verdict) (a b n : ℕ) (still : Option ℕ) → a ≡ b
    → Covers value list a n still → Covers value list b n still
Covers-recount value list a b n still same covers = subst (λ (c : ℕ). Covers value list c n still) same covers

-- a step: the answer to the open place, where one comes, and that to the next place, unless it is left open
Covers-step : (value : ℕ → Verdict) (list : List Verdict) (count n : ℕ) (holds begins : Bool) (still : Option ℕ)
    → (holds ≡ true → begins ≡ true) → n < length list → ((p : ℕ) → still ≡ Some p → p < n)
    → Covers value list count n still
    → Covers value
    (written (option_map (λ v. (n, v)) (cond holds None (Some (value n))))
    (written (cond begins (option_map (λ p. (p, value p)) still) None) list))
    (count + count_of {A = (ℕ × Verdict)} (cond begins (option_map (λ p. (p, value p)) still) None) + count_of
    (cond holds None (Some (value n))))
    (n + 1) (cond holds (Some n) (cond begins None still))
Covers-step value list count n true true None begun within below covers =
    Covers-recount value list count (count + 0 + 0) (n + 1) (Some n) (omega arith)
    (Covers-open value list count n covers)
Covers-step value list count n true true (Some p) begun within below covers =
    let at : p < n = below p refl in
    Covers-recount value (set list p (value p)) (count + 1) (count + 1 + 0) (n + 1) (Some n) (omega arith)
    (Covers-open value (set list p (value p)) (count + 1) n (Covers-answered value list count n p (omega arith) covers))
Covers-step value list count n false true None begun within below covers =
    Covers-recount value (set list n (value n)) (count + 1) (count + 0 + 1) (n + 1) None (omega arith)
    (Covers-next value list count n None within covers)
Covers-step value list count n false true (Some p) begun within below covers =
    let at : p < n = below p refl in
    Covers-next value (set list p (value p)) (count + 1) n None (omega (arith, length-set list p (value p)))
    (Covers-answered value list count n p (omega arith) covers)
Covers-step value list count n false false None begun within below covers =
    Covers-recount value (set list n (value n)) (count + 1) (count + 0 + 1) (n + 1) None (omega arith)
    (Covers-next value list count n None within covers)
Covers-step value list count n false false (Some p) begun within below covers =
    Covers-recount value (set list n (value n)) (count + 1) (count + 0 + 1) (n + 1) (Some p) (omega arith)
    (Covers-next value list count n (Some p) within covers)
Covers-step value list count n true false still begun within below covers = absurd (false≢true (begun refl))

-- The open place is the held position that waits

-- the cell after a held position heads a unit
pub held-heads : (profile : Profile) (left : List Cell) (cell : Cell) (more : List Cell)
    → is_held profile left (cell ∷ more) ≡ true → heads (reverse left) cell ≡ true
unfolding is_held is
held-heads First left cell more held = absurd (false≢true held)
held-heads Second left cell more held =
    let closes = and_parts (closing cell) (not (any_matches (before_15b (rule_list Second)) left (cell ∷ more))) held
    in
    let joins = QU-apart mark refl cell.class (and_parts (QU cell.class) (is_final cell.quote) closes.0).0 in
    ap (λ v. hard (nearest (reverse left)).class || not v) joins ∙ or_right (hard (nearest (reverse left)).class) true refl

pub unanswered-below : (profile : Profile) (side : Side) (p : ℕ) → unanswered_before profile side ≡ Some p
    → p < length side
unfolding unanswered_before
unanswered-below profile [] p = λ e. absurd (let no : ⊥ = cc in no)
unanswered-below profile (cell ∷ side) p =
    elim (is_held profile (reverse side) (cell ∷ []))
    as (λ v. cond v (Some (length side)) (cond (heads side cell) None (unanswered_before profile side)) ≡ Some p
    → p < suc (length side)) [
      | true ↦ λ e. (let same : length side ≡ p = cc in omega arith)
      | false ↦
          elim (heads side cell)
          as (λ w. cond w None (unanswered_before profile side) ≡ Some p → p < suc (length side)) [
            | true ↦ λ e. absurd (let no : ⊥ = cc in no)
            | false ↦ λ e. (let below : p < length side = unanswered-below profile side p e in omega arith)
          ]
    ]

pub unanswered-snoc : (profile : Profile) (left : List Cell) (cell : Cell) (more : List Cell)
    → unanswered profile (left ++ cell ∷ [])
    ≡ cond (is_held profile left (cell ∷ more)) (Some (length left))
    (cond (heads (reverse left) cell) None (unanswered profile left))
unfolding unanswered_before
unanswered-snoc profile left cell more =
    ap (unanswered_before profile) (reverse-snoc left cell)
    ∙ ap (λ v. cond v (Some (length (reverse left)))
    (cond (heads (reverse left) cell) None (unanswered_before profile (reverse left))))
    (ap (λ l. is_held profile l (cell ∷ [])) (reverse-reverse left) ∙ is_held-chain profile left cell []
    ∙ sym (is_held-chain profile left cell more))
    ∙ ap (λ n. cond (is_held profile left (cell ∷ more)) (Some n)
    (cond (heads (reverse left) cell) None (unanswered_before profile (reverse left))))
    (length-reverse left)

-- and its answer
option_map-cond : (f : ℕ → ℕ × Verdict) (holds begins : Bool) (n : ℕ) (still : Option ℕ)
    → option_map f (cond holds (Some n) (cond begins None still))
    ≡ cond holds (Some (f n)) (cond begins None (option_map f still))
option_map-cond f true begins n still = refl
option_map-cond f false true n still = refl
option_map-cond f false false n still = refl

pub answer-snoc : (profile : Profile) (left : List Cell) (cell : Cell) (more : List Cell)
    → answer_at profile (left ++ cell ∷ []) more
    ≡ cond (is_held profile left (cell ∷ more)) (Some (length left, verdict_between_in profile left (cell ∷ more)))
    (cond (heads (reverse left) cell) None (answer_at profile left (cell ∷ more)))
answer-snoc profile left cell more =
    let f : List Cell → ℕ → ℕ × Verdict = λ cells p. (p, verdict_in profile cells p) in
    let holds = is_held profile left (cell ∷ more) in
    let begins = heads (reverse left) cell in
    let whole = left ++ cell ∷ more in
    ap (option_map (f ((left ++ cell ∷ []) ++ more))) (unanswered-snoc profile left cell more)
    ∙ ap (λ cells. option_map (f cells) (cond holds (Some (length left)) (cond begins None (unanswered profile left))))
    (append_assoc left (cell ∷ []) more)
    ∙ option_map-cond (f whole) holds begins (length left) (unanswered profile left)
    ∙ ap (λ v. cond holds (Some (length left, v)) (cond begins None (option_map (f whole) (unanswered profile left))))
    (verdict_in-append profile left (cell ∷ more))

-- a position's verdict at its own step, by the whole text
pub now_at-whole : (profile : Profile) (left : List Cell) (cell : Cell) (more : List Cell)
    → now_at profile left (cell ∷ more)
    ≡ cond (is_held profile left (cell ∷ more)) None
    (Some (verdict_in profile (left ++ cell ∷ more) (length left)))
now_at-whole profile left cell more =
    ap (λ v. cond (is_held profile left (cell ∷ more)) None (Some v))
    (sym (verdict_in-append profile left (cell ∷ more)))

-- a machine's step over some cells
pub Covers-taken : (profile : Profile) (left : List Cell) (cell : Cell) (more : List Cell) (list : List Verdict)
    (count : ℕ)
    (late : Option (ℕ × Verdict)) (now : Option Verdict)
    → late ≡ late_at profile left cell more → now ≡ now_at profile left (cell ∷ more) → length left < length list
    → Covers (λ k. verdict_in profile (left ++ cell ∷ more) k) list count (length left) (unanswered profile left)
    → Covers (λ k. verdict_in profile (left ++ cell ∷ more) k)
    (written (option_map (λ v. (length left, v)) now) (written late list))
    (count + count_of late + count_of now) (length left + 1) (unanswered profile (left ++ cell ∷ []))
Covers-taken profile left cell more list count late now late_same now_same within covers =
    let n = length left in
    let value : ℕ → Verdict = λ k. verdict_in profile (left ++ cell ∷ more) k in
    let holds = is_held profile left (cell ∷ more) in
    let begins = heads (reverse left) cell in
    let still = unanswered profile left in
    let below : (p : ℕ) → still ≡ Some p → p < n =
    λ p e. (let b : p < length (reverse left) = unanswered-below profile (reverse left) p e in
    omega (arith, length-reverse left)) in
    let stepped = Covers-step value list count n holds begins still (held-heads profile left cell more) within below
    covers in
    let P : Option (ℕ × Verdict) → Option Verdict → Option ℕ → Type 0 = λ l o s.
    Covers value (written (option_map (λ v. (n, v)) o) (written l list)) (count + count_of l + count_of o) (n + 1) s in
    let by_late = subst (λ (l : Option (ℕ × Verdict)). P l (cond holds None (Some (value n)))
    (cond holds (Some n) (cond begins None still))) (sym late_same) stepped in
    let by_now = subst (λ (o : Option Verdict). P late o (cond holds (Some n) (cond begins None still)))
    (sym (now_same ∙ now_at-whole profile left cell more)) by_late in
    subst (λ (s : Option ℕ). P late now s) (sym (unanswered-snoc profile left cell more)) by_now

pub Covers-start : (value : ℕ → Verdict) (list : List Verdict) (profile : Profile)
    → Covers value list 0 0 (unanswered profile [])
unfolding unanswered_before
Covers-start value list profile = record { each = λ k below _. absurd (omega arith); counted = refl }

-- answers come for positions before the cells taken
answer-below : (value : ℕ → Verdict) (still : Option ℕ) (n : ℕ) → ((p : ℕ) → still ≡ Some p → p < n)
    → ForSome {T = (ℕ × Verdict)} (option_map (λ p. (p, value p)) still) (λ answer. answer.0 < n)
answer-below value None n below = λ answer e. absurd (let no : ⊥ = cc in no)
answer-below value (Some p) n below = λ answer e.
    let here : ℕ × Verdict = (p, value p) in
    let same : here ≡ answer = cc in
    let place : p ≡ answer.0 = ap (λ a. a.0) same in
    let under : p < n = below p refl in
    omega arith

pub answer_at-below : (profile : Profile) (cells more : List Cell)
    → ForSome (answer_at profile cells more) (λ answer. answer.0 < length cells)
answer_at-below profile cells more =
    answer-below (λ p. verdict_in profile (cells ++ more) p) (unanswered profile cells) (length cells)
    (λ p e. let below : p < length (reverse cells) = unanswered-below profile (reverse cells) p e in
    omega (arith, length-reverse cells))

pub late_at-below : (profile : Profile) (left : List Cell) (cell : Cell) (more : List Cell)
    → ForSome (late_at profile left cell more) (λ answer. answer.0 < length left)
late_at-below profile left cell more =
    elim (heads (reverse left) cell)
    as (λ v. ForSome {T = (ℕ × Verdict)} (cond v (answer_at profile left (cell ∷ more)) None)
    (λ answer. answer.0 < length left))
    [ true ↦ answer_at-below profile left (cell ∷ more) | false ↦ λ answer e. absurd (let no : ⊥ = cc in no) ]

-- no more answers come than places are open
count-option_map : (value : ℕ → Verdict) (still : Option ℕ)
    → count_of {A = (ℕ × Verdict)} (option_map (λ p. (p, value p)) still) ≡ count_of still
count-option_map value None = refl
count-option_map value (Some _) = refl

pub late_at-count : (profile : Profile) (left : List Cell) (cell : Cell) (more : List Cell)
    → count_of (late_at profile left cell more) ≤ count_of (unanswered profile left)
late_at-count profile left cell more =
    elim (heads (reverse left) cell)
    as (λ v. count_of {A = (ℕ × Verdict)} (cond v (answer_at profile left (cell ∷ more)) None) ≤ count_of
    (unanswered profile left)) [
      | true ↦ omega (
        arith,
        count-option_map (λ p. verdict_in profile (left ++ cell ∷ more) p)
            (unanswered profile left),
      )
      | false ↦ omega arith
    ]

-- the end: the answer to the open place, and that to the last
pub Covers-end : (value : ℕ → Verdict) (list : List Verdict) (count n : ℕ) (still : Option ℕ)
    → n < length list → ((p : ℕ) → still ≡ Some p → p < n) → Covers value list count n still
    → Covers value (set (written (option_map (λ p. (p, value p)) still) list) n (value n))
    (count + count_of {A = (ℕ × Verdict)} (option_map (λ p. (p, value p)) still) + 1) (n + 1) None
Covers-end value list count n None within below covers =
    Covers-recount value (set list n (value n)) (count + 1) (count + 0 + 1) (n + 1) None (omega arith)
    (Covers-next value list count n None within covers)
Covers-end value list count n (Some p) within below covers =
    let at : p < n = below p refl in
    Covers-next value (set list p (value p)) (count + 1) n None (omega (arith, length-set list p (value p)))
    (Covers-answered value list count n p (omega arith) covers)

-- a turn of the loop
pub Covers-turn : (profile : Profile) (cells left more next : List Cell) (cell : Cell) (list list1 list2 : List Verdict)
    (count n r1 r2 : ℕ)
    (late : Option (ℕ × Verdict)) (now : Option Verdict)
    → left ++ cell ∷ more ≡ cells → length left ≡ n → left ++ cell ∷ [] ≡ next
    → late ≡ late_at profile left cell more → now ≡ now_at profile left (cell ∷ more) → n < length list
    → list1 ≡ written late list → list2 ≡ written (option_map (λ v. (n, v)) now) list1
    → r1 ≡ count_of late → r2 ≡ count_of now
    → Covers (λ k. verdict_in profile cells k) list count n (unanswered profile left)
    → Covers (λ k. verdict_in profile cells k) list2 (count + r1 + r2) (n + 1) (unanswered profile next)
Covers-turn profile cells left more next cell list list1 list2 count n r1 r2 late now whole place one_more late_same
    now_same within first second first_count second_count covers =
    let still = unanswered profile left in
    let by_place = subst (λ (m : ℕ). Covers (λ k. verdict_in profile cells k) list count m still) (sym place) covers in
    let base = subst (λ (c : List Cell). Covers (λ k. verdict_in profile c k) list count (length left) still)
    (sym whole) by_place in
    let under : length left < length list = omega arith in
    let stepped = Covers-taken profile left cell more list count late now late_same now_same under base in
    let answers = λ (m : ℕ) (l : List Verdict). written (option_map (λ v. (m, v)) now) l in
    let list_same : answers (length left) (written late list) ≡ list2 =
    ap (λ m. answers m (written late list)) place ∙ ap (λ l. answers n l) (sym first) ∙ sym second in
    let count_same : count + count_of late + count_of now ≡ count + r1 + r2 = omega arith in
    let still_next = unanswered profile (left ++ cell ∷ []) in
    let by_whole = subst (λ (c : List Cell). Covers (λ k. verdict_in profile c k)
    (answers (length left) (written late list)) (count + count_of late + count_of now) (length left + 1) still_next)
    whole stepped in
    let by_list = subst (λ (l : List Verdict). Covers (λ k. verdict_in profile cells k) l
    (count + count_of late + count_of now) (length left + 1) still_next) list_same by_whole in
    let by_count = subst (λ (s : ℕ). Covers (λ k. verdict_in profile cells k) list2 s (length left + 1) still_next)
    count_same by_list in
    let by_n = subst (λ (m : ℕ). Covers (λ k. verdict_in profile cells k) list2 (count + r1 + r2) (m + 1) still_next)
    place by_count in
    subst (λ (c : List Cell). Covers (λ k. verdict_in profile cells k) list2 (count + r1 + r2) (n + 1)
    (unanswered profile c)) one_more by_n

-- after the end of the loop
pub Covers-finish : (profile : Profile) (cells : List Cell) (list list1 : List Verdict) (count r last : ℕ)
    (late : Option (ℕ × Verdict)) (end : Verdict)
    → late ≡ answer_at profile cells [] → end ≡ verdict_in profile cells (length cells) → length cells < length list
    → last ≡ length cells
    → list1 ≡ written late list → r ≡ count_of late
    → Covers (λ k. verdict_in profile cells k) list count (length cells) (unanswered profile cells)
    → Covers (λ k. verdict_in profile cells k) (set list1 last end) (count + r + 1) (length cells + 1) None
Covers-finish profile cells list list1 count r last late end late_same end_same within last_same list_same count_same
    covers =
    let value : ℕ → Verdict = λ k. verdict_in profile cells k in
    let still = unanswered profile cells in
    let n = length cells in
    let late' : Option (ℕ × Verdict) = option_map (λ p. (p, value p)) still in
    let late_is : late ≡ late' =
    late_same ∙ ap (λ c. option_map (λ p. (p, verdict_in profile c p)) still) (append-nil cells) in
    let below : (p : ℕ) → still ≡ Some p → p < n =
    λ p e. (let b : p < length (reverse cells) = unanswered-below profile (reverse cells) p e in
    omega (arith, length-reverse cells)) in
    let ended = Covers-end value list count n still within below covers in
    let list_is : set (written late' list) n (value n) ≡ set list1 last end =
    ap (λ l. set (written l list) n (value n)) (sym late_is) ∙ ap (λ l. set l n (value n)) (sym list_same)
    ∙ ap (λ k. set list1 k (value n)) (sym last_same) ∙ ap (λ v. set list1 last v) (sym end_same) in
    let count_is : count + count_of late' + 1 ≡ count + r + 1 =
    ap (λ l. count + count_of l + 1) (sym late_is) ∙ ap (λ m. count + m + 1) (sym count_same) in
    subst (λ (s : ℕ). Covers value (set list1 last end) s (n + 1) None) count_is
    (subst (λ (l : List Verdict). Covers value l (count + count_of late' + 1) (n + 1) None) list_is ended)
