-- For crates above that step a late machine over a text: which positions have their answers.
use Rattle.std.proofs.Common.{◌≡◌, ◌≢◌, ℕ, ◌+◌, ◌<◌, ◌≤◌, Bool, true, false, cond, Option, Some, None, List, [], ◌∷◌}
use Rattle.std.proofs.Common.{◌++◌, length, reverse, refl, sym, ap, subst, ◌∙◌, inl, inr, arith}
use Rattle.std.specs.Option.{option_map, ForSome}
use Rattle.std.proofs.lemmas.Bool.{cases_eq, false≢true}
use Rattle.std.proofs.lemmas.List.{length-reverse, length_push, append-nil}
use Rattle.lbk_uax14.specs.declared.cells.Cell.{Cell}
use Rattle.lbk_uax14.specs.declared.late_machine.LateMachine.{LateMachine}
use Rattle.lbk_values.specs.declared.profile.Profile.{Profile}
use Rattle.lbk_values.specs.declared.profile.Profile.TheVariants.{First}
use Rattle.lbk_uax14.specs.declared.verdicts.Verdict.{Verdict}
use Rattle.lbk_uax14.specs.Units.{heads}
use Rattle.lbk_uax14.specs.Held.{is_held, answer_at, late_at, now_at, unanswered, unanswered_before}
use Rattle.lbk_uax14.specs.LateFits.{LateFits, held_position}
use Rattle.lbk_uax14.specs.Once.{named, came_late, came_now}
use Rattle.lbk_uax14.specs.Verdict.{verdict_in, verdict_between_in}
use Rattle.lbk_uax14.proofs.CoverLemmas.{held-heads, now_at-whole, some-same, unanswered-below, unanswered-snoc}
use Rattle.lbk_uax14.proofs.WaitingLemmas.{position_of, unanswered-waiting}

-- a machine that fits holds the position that is unanswered, and none else
pub held_position-fits : (machine : LateMachine) (profile : Profile) (cells : List Cell)
    → LateFits machine profile cells
    → held_position machine ≡ unanswered profile cells
unfolding held_position
held_position-fits machine profile cells fits =
    ap position_of fits.held_same ∙ sym (unanswered-waiting profile (reverse cells))

-- an unanswered position stands before one of the cells
pub unanswered-within : (profile : Profile) (cells : List Cell) (p : ℕ) → unanswered profile cells ≡ Some p
    → p < length cells
unanswered-within profile cells p e =
    let below : p < length (reverse cells) = unanswered-below profile (reverse cells) p e in
    omega (arith, length-reverse cells)

pub unanswered-none : (profile : Profile) → unanswered profile [] ≡ None
unfolding unanswered_before
unanswered-none profile = refl

-- in the first profile no position waits

first-waits_not : (side : List Cell) → unanswered_before First side ≡ None
unfolding unanswered_before is_held
first-waits_not [] = refl
first-waits_not (cell ∷ side) =
    elim (heads side cell) as (λ v. cond v None (unanswered_before First side) ≡ None)
    [ true ↦ refl | false ↦ first-waits_not side ]

pub unanswered-first : (cells : List Cell) → unanswered First cells ≡ None
unanswered-first cells = first-waits_not (reverse cells)

pub late_at-first : (cells : List Cell) (cell : Cell) (more : List Cell) → late_at First cells cell more ≡ None
late_at-first cells cell more =
    ap (λ o. cond (heads (reverse cells) cell) (option_map (λ p. (p, verdict_in First (cells ++ cell ∷ more) p)) o)
    None) (unanswered-first cells)
    ∙ (elim (heads (reverse cells) cell) as (λ v. cond {A = Option (ℕ × Verdict)} v None None ≡ None)
    [ true ↦ refl | false ↦ refl ])

pub now_at-first : (left right : List Cell) → now_at First left right ≡ Some (verdict_between_in First left right)
unfolding is_held
now_at-first left right = refl

-- A step answers each position once

once-step : (value : ℕ → Verdict) (n : ℕ) (verdict : Verdict) (holds begins : Bool) (still : Option ℕ)
    → (holds ≡ true → begins ≡ true)
    → came_late (cond begins (option_map (λ p. (p, value p)) still) None)
    ++ named (cond holds (Some n) (cond begins None still))
    ++ came_now n (cond holds None (Some verdict))
    ≡ named still ++ n ∷ []
once-step value n verdict true true None begun = refl
once-step value n verdict true true (Some p) begun = refl
once-step value n verdict false true None begun = refl
once-step value n verdict false true (Some p) begun = refl
once-step value n verdict false false None begun = refl
once-step value n verdict false false (Some p) begun = refl
once-step value n verdict true false still begun = absurd (false≢true (begun refl))

pub step_once : (profile : Profile) (cells : List Cell) (cell : Cell) (more : List Cell)
    → came_late (late_at profile cells cell more)
    ++ named (unanswered profile (cells ++ cell ∷ []))
    ++ came_now (length cells) (now_at profile cells (cell ∷ more))
    ≡ named (unanswered profile cells) ++ length cells ∷ []
step_once profile cells cell more =
    ap (λ s. came_late (late_at profile cells cell more) ++ named s ++ came_now (length cells)
    (now_at profile cells (cell ∷ more)))
    (unanswered-snoc profile cells cell more)
    ∙ once-step (λ p. verdict_in profile (cells ++ cell ∷ more) p) (length cells)
    (verdict_between_in profile cells (cell ∷ more))
    (is_held profile cells (cell ∷ more)) (heads (reverse cells) cell) (unanswered profile cells)
    (held-heads profile cells cell more)

once-end : (value : ℕ → Verdict) (still : Option ℕ) → came_late (option_map (λ p. (p, value p)) still) ≡ named still
once-end value None = refl
once-end value (Some p) = refl

pub end_once : (profile : Profile) (cells more : List Cell)
    → came_late (answer_at profile cells more) ≡ named (unanswered profile cells)
end_once profile cells more = once-end (λ p. verdict_in profile (cells ++ more) p) (unanswered profile cells)

-- The loop of a caller

-- `come` holds of each position before the cells taken but for the one that is unanswered
pub record AllCome (profile : Profile) (cells : List Cell) (come : ℕ → Type 0) : Type 0 where
  pub each : (k : ℕ) → k < length cells → unanswered profile cells ≢ Some k → come k

pub AllCome-start : (profile : Profile) (come : ℕ → Type 0) → AllCome profile [] come
AllCome-start profile come = record { each = λ k below _. absurd (omega arith) }

-- what is asked of a step's answers: each, which is its position's verdict in the whole text, makes `come` hold there
pub record IsTaken (value : ℕ → Verdict) (n : ℕ) (late : Option (ℕ × Verdict)) (now : Option Verdict) (before after : ℕ
    → Type 0) : Type 0 where
  pub kept : (k : ℕ) → k < n → before k → after k
  pub late_taken : (p : ℕ) → late ≡ Some (p, value p) → after p
  pub now_taken : now ≡ Some (value n) → after n

-- the open position is answered, or stays open
come-open : (value : ℕ → Verdict) (n p : ℕ) (holds begins : Bool) (after : ℕ → Type 0) → (holds ≡ true → begins ≡ true)
    → ((k : ℕ) → cond {A = Option (ℕ × Verdict)} begins (Some (p, value p)) None ≡ Some (k, value k) → after k)
    → cond holds (Some n) (cond begins None (Some p)) ≢ Some p → after p
come-open value n p holds true after begun late apart = late p refl
come-open value n p true false after begun late apart = absurd (false≢true (begun refl))
come-open value n p false false after begun late apart = absurd (apart refl)

come-earlier : (value : ℕ → Verdict) (n k : ℕ) (holds begins : Bool) (still : Option ℕ) (before after : ℕ → Type 0)
    → (holds ≡ true → begins ≡ true)
    → (before k → after k)
    → ((p : ℕ) → cond {A = Option (ℕ × Verdict)} begins (option_map (λ p. (p, value p)) still) None ≡ Some (p, value p)
    → after p)
    → (still ≢ Some k → before k)
    → cond holds (Some n) (cond begins None still) ≢ Some k → after k
come-earlier value n k holds begins None before after begun kept late come apart =
    kept (come (λ e. (let none : ⊥ = cc in none)))
come-earlier value n k holds begins (Some p) before after begun kept late come apart =
    elim (cases_eq k p) [
      | inl here ↦
          subst after (sym here)
          (come-open value n p holds begins after begun late (λ e. apart (e ∙ ap Some (sym here))))
      | inr other ↦ kept (come (λ e. other (sym (some-same p k e))))
    ]

come-now : (value : ℕ → Verdict) (n : ℕ) (holds : Bool) (rest : Option ℕ) (after : ℕ → Type 0)
    → (cond holds None (Some (value n)) ≡ Some (value n) → after n) → cond holds (Some n) rest ≢ Some n → after n
come-now value n true rest after now apart = absurd (apart refl)
come-now value n false rest after now apart = now refl

come-step : (value : ℕ → Verdict) (n : ℕ) (holds begins : Bool) (still : Option ℕ) (before after : ℕ → Type 0)
    → (holds ≡ true → begins ≡ true)
    → IsTaken value n (cond begins (option_map (λ p. (p, value p)) still) None) (cond holds None (Some (value n)))
    before after
    → ((k : ℕ) → k < n → still ≢ Some k → before k)
    → (k : ℕ) → k < n + 1 → cond holds (Some n) (cond begins None still) ≢ Some k → after k
come-step value n holds begins still before after begun taken come k below apart =
    elim (cases_eq k n) [
      | inl here ↦
          subst after (sym here)
          (come-now value n holds (cond begins None still) after taken.now_taken (λ e. apart (e ∙ ap Some (sym here))))
      | inr other ↦
          let under : k < n = omega arith in
          come-earlier value n k holds begins still before after begun (taken.kept k under) taken.late_taken
          (come k under) apart
    ]

-- one more cell
pub AllCome-step : (profile : Profile) (cells : List Cell) (cell : Cell) (more : List Cell)
    (late : Option (ℕ × Verdict)) (now : Option Verdict)
    (before after : ℕ → Type 0)
    → late ≡ late_at profile cells cell more → now ≡ now_at profile cells (cell ∷ more)
    → IsTaken (λ k. verdict_in profile (cells ++ cell ∷ more) k) (length cells) late now before after
    → AllCome profile cells before → AllCome profile (cells ++ cell ∷ []) after
AllCome-step profile cells cell more late now before after late_same now_same taken come =
    let n = length cells in
    let value : ℕ → Verdict = λ k. verdict_in profile (cells ++ cell ∷ more) k in
    let by_late = subst (λ (l : Option (ℕ × Verdict)). IsTaken value n l now before after) late_same taken in
    let by_now = subst (λ (o : Option Verdict). IsTaken value n (late_at profile cells cell more) o before after)
    (now_same ∙ now_at-whole profile cells cell more) by_late in
    record {
      each = λ k below apart.
          come-step value n (is_held profile cells (cell ∷ more)) (heads (reverse cells) cell) (unanswered profile cells)
          before after (held-heads profile cells cell more) by_now come.each k (omega (arith, length_push cells cell))
          (λ e. apart (unanswered-snoc profile cells cell more ∙ e));
    }

-- the end: the answer to the position that is open, and that to the last
pub AllCome-end : (profile : Profile) (cells : List Cell) (late : Option (ℕ × Verdict)) (end : Verdict)
    (before after : ℕ → Type 0)
    → late ≡ answer_at profile cells [] → end ≡ verdict_in profile cells (length cells)
    → IsTaken (λ k. verdict_in profile cells k) (length cells) late (Some end) before after
    → AllCome profile cells before → (k : ℕ) → k ≤ length cells → after k
AllCome-end profile cells late end before after late_same end_same taken come k within =
    let n = length cells in
    let value : ℕ → Verdict = λ k. verdict_in profile cells k in
    let still = unanswered profile cells in
    let late_is : late ≡ option_map (λ p. (p, value p)) still =
    late_same ∙ ap (λ c. option_map (λ p. (p, verdict_in profile c p)) still) (append-nil cells) in
    let by_late = subst (λ (l : Option (ℕ × Verdict)). IsTaken value n l (Some end) before after) late_is taken in
    let by_end = subst (λ (o : Option Verdict). IsTaken value n (option_map (λ p. (p, value p)) still) o before after)
    (ap Some end_same) by_late in
    come-step value n false true still before after (λ _. refl) by_end come.each k (omega arith)
    (λ e. (let none : ⊥ = cc in none))

-- one more cell of a text, `cells ++ cell ∷ more`, with `next` the cells taken then
pub AllCome-turn : (profile : Profile) (text cells : List Cell) (cell : Cell) (more next : List Cell) (n : ℕ)
    (late : Option (ℕ × Verdict)) (now : Option Verdict) (before after : ℕ → Type 0)
    → cells ++ cell ∷ more ≡ text → cells ++ cell ∷ [] ≡ next → length cells ≡ n
    → late ≡ late_at profile cells cell more → now ≡ now_at profile cells (cell ∷ more)
    → IsTaken (λ k. verdict_in profile text k) n late now before after
    → AllCome profile cells before → AllCome profile next after
AllCome-turn profile text cells cell more next n late now before after whole one_more place late_same now_same taken
    come =
    let by_place = subst (λ (m : ℕ). IsTaken (λ k. verdict_in profile text k) m late now before after) (sym place) taken
    in
    let by_whole = subst (λ (t : List Cell). IsTaken (λ k. verdict_in profile t k) (length cells) late now before after)
    (sym whole) by_place in
    subst (λ (c : List Cell). AllCome profile c after) one_more
    (AllCome-step profile cells cell more late now before after late_same now_same by_whole come)

-- Answers that come late are for positions before the cells taken, and are their verdicts

answer-verdict : (value : ℕ → Verdict) (still : Option ℕ)
    → ForSome {T = (ℕ × Verdict)} (option_map (λ p. (p, value p)) still) (λ answer. answer.1 ≡ value answer.0)
answer-verdict value None = λ answer e. absurd (let no : ⊥ = cc in no)
answer-verdict value (Some p) = λ answer e.
    let here : ℕ × Verdict = (p, value p) in
    let same : here ≡ answer = cc in
    subst (λ (a : ℕ × Verdict). a.1 ≡ value a.0) same refl

pub answer_at-verdict : (profile : Profile) (cells more : List Cell)
    → ForSome (answer_at profile cells more) (λ answer. answer.1 ≡ verdict_in profile (cells ++ more) answer.0)
answer_at-verdict profile cells more = answer-verdict (λ p. verdict_in profile (cells ++ more) p)
    (unanswered profile cells)

pub late_at-verdict : (profile : Profile) (cells : List Cell) (cell : Cell) (more : List Cell)
    → ForSome (late_at profile cells cell more)
    (λ answer. answer.1 ≡ verdict_in profile (cells ++ cell ∷ more) answer.0)
late_at-verdict profile cells cell more =
    elim (heads (reverse cells) cell)
    as (λ v. ForSome {T = (ℕ × Verdict)} (cond v (answer_at profile cells (cell ∷ more)) None)
    (λ answer. answer.1 ≡ verdict_in profile (cells ++ cell ∷ more) answer.0))
    [ true ↦ answer_at-verdict profile cells (cell ∷ more) | false ↦ λ answer e. absurd (let no : ⊥ = cc in no) ]
