-- Marks put at their positions as a machine answers them.
use Rattle.std.proofs.Common.{◌≡◌, ℕ, ◌+◌, ◌<◌, ◌≤◌, List, [], ◌∷◌, ◌++◌, length, map, get_or, set, take, drop, Option, Some, None, refl, ap, sym, subst, ◌∙◌, arith, inl, inr, get_or-set_other, get_or-set_same, append-nil}
use Rattle.std.specs.Option.{ForSome}
use Rattle.std.proofs.Math.ListN.{get_or-append, length-set}
use Rattle.std.proofs.Math.Seq.{get_or-append_seam}
use Rattle.std.proofs.lemmas.Bool.{cases_eq}
use Rattle.std.proofs.lemmas.List.{drop_more, length_push, map-append, take_more, take-append-drop, length-take-le, length-map}
use Rattle.std.proofs.lemmas.List.FromFn.{fill_by_all, length-map-range_with_len}
use Rattle.lbk_notation.specs.declared.marks.Mark.{Mark}
use Rattle.lbk_notation.specs.declared.marks.Mark.TheVariants.{No}
use Rattle.lbk_notation.specs.Marked.{mark_of, mark_at, marks_in}
use Rattle.lbk_notation.specs.Put.{put, mark_now}
use Rattle.lbk_rules.specs.declared.Cell.{Cell}
use Rattle.lbk_values.specs.declared.profile.Profile.{Profile}
use Rattle.lbk_rules.specs.declared.Verdict.{Verdict}
use Rattle.lbk_rules.specs.Held.{late_at, now_at, answer_at}
use Rattle.lbk_rules.specs.Verdict.{verdict_in}
use Rattle.lbk_rules.proofs.CoverLemmas.{late_at-below, answer_at-below}
use Rattle.lbk_rules.proofs.StepLemmas.{AllCome, AllCome-turn, AllCome-end, IsTaken, late_at-verdict, answer_at-verdict}

-- the mark of position k is there
abbrev pub Come : Profile → List Cell → List Mark → ℕ → Type 0
Come profile text marks k = get_or marks k No ≡ mark_at profile text k

pub length-put : (late : Option (ℕ × Verdict)) (marks : List Mark) → length (put late marks) ≡ length marks
length-put None marks = refl
length-put (Some answer) marks = length-set marks answer.0 (mark_of answer.1.kind)

-- a mark that stands stays, and a late one comes to its place
put_kept : (profile : Profile) (text : List Cell) (late : Option (ℕ × Verdict)) (marks : List Mark) (k : ℕ)
    → ForSome late (λ answer. answer.0 < length marks) → ForSome late (λ answer. answer.1 ≡ verdict_in profile text answer.0)
    → Come profile text marks k → Come profile text (put late marks) k
put_kept profile text None marks k below right come = come
put_kept profile text (Some answer) marks k below right come =
    elim (cases_eq k answer.0) [
      | inl here ↦
          let within : answer.0 < length marks = below answer refl in
          let same : get_or (set marks answer.0 (mark_of answer.1.kind)) answer.0 No ≡ mark_of answer.1.kind =
          get_or-set_same marks answer.0 (mark_of answer.1.kind) No within in
          subst (Come profile text (set marks answer.0 (mark_of answer.1.kind))) (sym here)
          (same ∙ ap (λ (v : Verdict). mark_of v.kind) (right answer refl))
      | inr other ↦ get_or-set_other marks answer.0 k (mark_of answer.1.kind) No other ∙ come
    ]

put_late : (profile : Profile) (text : List Cell) (late : Option (ℕ × Verdict)) (marks : List Mark) (p : ℕ)
    → ForSome late (λ answer. answer.0 < length marks) → late ≡ Some (p, verdict_in profile text p) → Come profile text (put late marks) p
put_late profile text late marks p below is =
    let within : p < length marks = below (p, verdict_in profile text p) is in
    rw is (get_or-set_same marks p (mark_at profile text p) No within)

-- what a step's answers are taken for
pub marks_taken : (profile : Profile) (text : List Cell) (n : ℕ) (late : Option (ℕ × Verdict)) (now : Option Verdict) (marks marks' : List Mark)
    → length marks ≡ n → marks' ≡ put late marks ++ mark_now now ∷ [] → ForSome late (λ answer. answer.0 < length marks)
    → ForSome late (λ answer. answer.1 ≡ verdict_in profile text answer.0)
    → IsTaken (λ k. verdict_in profile text k) n late now (Come profile text marks) (Come profile text marks')
marks_taken profile text n late now marks marks' many is below right = record {
  kept = λ k under come. front k (omega arith) (put_kept profile text late marks k below right come);
  late_taken = λ p e.
      let within : p < length marks = below (p, verdict_in profile text p) e in
      front p within (put_late profile text late marks p below e);
  now_taken = λ e.
      let seam : get_or (put late marks ++ mark_now now ∷ []) (length (put late marks)) No ≡ mark_now now =
      get_or-append_seam (put late marks) (mark_now now) [] No in
      let place : length (put late marks) ≡ n = length-put late marks ∙ many in
      rw is (subst (λ k. get_or (put late marks ++ mark_now now ∷ []) k No ≡ mark_now now) place seam ∙ ap mark_now e);
}
  where
    front : (k : ℕ) → k < length marks → Come profile text (put late marks) k → Come profile text marks' k
    front k under come =
        let within : k < length (put late marks) = omega (arith, length-put late marks) in
        rw is (get_or-append (put late marks) (mark_now now ∷ []) No k within ∙ come)

-- one more cell of the text
pub marks_turn : (profile : Profile) (text cells : List Cell) (cell : Cell) (more next : List Cell) (late : Option (ℕ × Verdict)) (now : Option Verdict)
    (marks marks' : List Mark) → cells ++ cell ∷ more ≡ text → cells ++ cell ∷ [] ≡ next → length marks ≡ length cells
    → late ≡ late_at profile cells cell more → now ≡ now_at profile cells (cell ∷ more) → marks' ≡ put late marks ++ mark_now now ∷ []
    → AllCome profile cells (Come profile text marks) → AllCome profile next (Come profile text marks')
marks_turn profile text cells cell more next late now marks marks' whole one_more many late_same now_same is come =
    let below : ForSome late (λ answer. answer.0 < length marks) = λ answer e.
    (let b = late_at-below profile cells cell more answer (sym late_same ∙ e) in omega arith) in
    let right : ForSome late (λ answer. answer.1 ≡ verdict_in profile text answer.0) = λ answer e.
    late_at-verdict profile cells cell more answer (sym late_same ∙ e) ∙ ap (λ t. verdict_in profile t answer.0) whole in
    AllCome-turn profile text cells cell more next (length cells) late now (Come profile text marks) (Come profile text marks') whole one_more refl
    late_same now_same (marks_taken profile text (length cells) late now marks marks' many is below right) come

-- the end of the text
pub marks_end : (profile : Profile) (cells : List Cell) (late : Option (ℕ × Verdict)) (end : Verdict) (marks marks' : List Mark)
    → length marks ≡ length cells → late ≡ answer_at profile cells [] → end ≡ verdict_in profile cells (length cells)
    → marks' ≡ put late marks ++ mark_of end.kind ∷ [] → AllCome profile cells (Come profile cells marks) → marks' ≡ marks_in profile cells
marks_end profile cells late end marks marks' many late_same end_same is come =
    let below : ForSome late (λ answer. answer.0 < length marks) = λ answer e.
    (let b = answer_at-below profile cells [] answer (sym late_same ∙ e) in omega arith) in
    let right : ForSome late (λ answer. answer.1 ≡ verdict_in profile cells answer.0) = λ answer e.
    answer_at-verdict profile cells [] answer (sym late_same ∙ e) ∙ ap (λ t. verdict_in profile t answer.0) (append-nil cells) in
    let each = AllCome-end profile cells late end (Come profile cells marks) (Come profile cells marks') late_same end_same
    (marks_taken profile cells (length cells) late (Some end) marks marks' many is below right) come in
    let count : length marks' ≡ length cells + 1 =
    ap length is ∙ (length_push (put late marks) (mark_of end.kind) ∙ ap (λ n. n + 1) (length-put late marks ∙ many)) in
    fill_by_all (mark_at profile cells) marks' (length cells + 1) No count (λ k lt. each k (omega arith))

-- a text's scalars around the one at k, at which a loop over them is
pub record Around (f : ℕ → Cell) (scalars : List ℕ) (k x : ℕ) : Type 0 where
  pub one_more : take k scalars ++ x ∷ [] ≡ take (k + 1) scalars
  pub next : map f (take k scalars) ++ f x ∷ [] ≡ map f (take (k + 1) scalars)
  pub whole : map f (take k scalars) ++ f x ∷ map f (drop (k + 1) scalars) ≡ map f scalars
  pub count : length (map f (take k scalars)) ≡ k

pub length-before : (f : ℕ → Cell) (scalars : List ℕ) (k : ℕ) → k ≤ length scalars → length (map f (take k scalars)) ≡ k
length-before f scalars k within = length-map (take k scalars) f ∙ length-take-le k scalars within

pub around : (f : ℕ → Cell) (scalars : List ℕ) (k x : ℕ) → k < length scalars → x ≡ get_or scalars k x → Around f scalars k x
around f scalars k x within item =
    let one_more : take k scalars ++ x ∷ [] ≡ take (k + 1) scalars =
    ap (λ y. take k scalars ++ y ∷ []) item ∙ sym (take_more scalars k x within) in
    let split : take k scalars ++ x ∷ drop (k + 1) scalars ≡ scalars =
    ap (λ y. take k scalars ++ y ∷ drop (k + 1) scalars) item ∙ ap (λ r. take k scalars ++ r) (sym (drop_more scalars k x within))
    ∙ take-append-drop k scalars in
    record {
      one_more = one_more;
      next = sym (map-append f (take k scalars) (x ∷ [])) ∙ ap (map f) one_more;
      whole = sym (map-append f (take k scalars) (x ∷ drop (k + 1) scalars)) ∙ ap (map f) split;
      count = length-before f scalars k (omega arith);
    }

pub length-marks_in : (profile : Profile) (f : ℕ → Cell) (scalars : List ℕ) → length (marks_in profile (map f scalars)) ≡ length scalars + 1
length-marks_in profile f scalars =
    length-map-range_with_len (mark_at profile (map f scalars)) 0 (length (map f scalars) + 1) ∙ ap (λ n. n + 1) (length-map scalars f)
