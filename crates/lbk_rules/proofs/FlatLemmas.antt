-- What the steps from a row tell of a text.
use Rattle.std.proofs.Common.{◌≡◌, ℕ, ◌/◌, ◌%◌, true, false, List, [], ◌∷◌, refl, sym, ap, subst, ◌∙◌, arith}
use Rattle.lbk_values.specs.declared.profile.Profile.{Profile}
use Rattle.lbk_values.specs.declared.profile.Profile.TheVariants.{First, Second}
use Rattle.lbk_uax14.specs.Chain.{from_cells}
use Rattle.lbk_uax14.specs.Facts.{facts}
use Rattle.lbk_uax14.specs.Held.{is_15b}
use Rattle.lbk_uax14.specs.Sides.{Side}
use Rattle.lbk_uax14.proofs.HeldLemmas.{from_cells-15b, from_cells-open, from_cells-settled}
use Rattle.lbk_uax14.proofs.LookAheadLemmas.{from_cells-right}
use Rattle.lbk_rules.specs.declared.steps.Step.{Step}
use Rattle.lbk_rules.specs.declared.steps.TheConstants.{HELD}
use Rattle.lbk_rules.specs.FlatTable.{IsFlatStep}
use Rattle.lbk_rules.specs.Kinds.{kind_cell, real_kind}
use Rattle.lbk_rules.specs.Rows.{IsPlace, IsShown, IsStepFrom, left_at, place_by, row_left, sample, shown_of, step_by, steps_in, verdict_shown}
use Rattle.lbk_rules.proofs.RowLemmas.{next-same, step-by, step-copied}
use Rattle.lbk_rules.proofs.ShownLemmas.{shown-verdict}

-- the step by a number is one from the row by its kind
pub step-here : (profile : Profile) (place number : ℕ) → IsPlace place
    → IsStepFrom profile place (real_kind number) (step_by (steps_in profile) place number)
step-here First place number is_place = step-by First place (number % 128) is_place (omega arith)
step-here Second place number is_place = step-by Second place (number % 128) is_place (omega arith)

-- so it is where it is read of the profile's steps
pub step-made : (profile : Profile) (rows : List (List Step)) (place number : ℕ) (step : Step) → rows ≡ steps_in profile → IsPlace place → step ≡ step_by rows place number
    → IsStepFrom profile place (real_kind number) step
step-made profile rows place number step is is_place read =
    subst (IsStepFrom profile place (real_kind number)) (sym (read ∙ ap (λ r. step_by r place number) is)) (step-here profile place number is_place)

-- some cells that the row at a place knows of
abbrev known : ℕ → Side
known place = sample (place / 128)

knows : (place : ℕ) → facts (known place) ≡ left_at place
unfolding left_at row_left
knows place = refl

-- what is shown where nothing follows
told-alone : (profile : Profile) (place kind : ℕ) (step : Step) (side : Side) → IsStepFrom profile place kind step → facts side ≡ left_at place
    → verdict_shown step.shown ≡ from_cells profile side (kind_cell kind ∷ [])
told-alone profile place kind step side from alike = shown-verdict step.shown (from_cells profile side (kind_cell kind ∷ [])) (from.shows side alike)

pub held-15b : is_15b (verdict_shown HELD).rule ≡ true
unfolding verdict_shown
held-15b = refl

-- rule 15b alone is shown where a position is held
apart-15b : (place kind : ℕ) (step : Step) (side : Side) → IsStepFrom Second place kind step → facts side ≡ left_at place → ¬ (step.shown ≡ HELD)
    → is_15b (from_cells Second side (kind_cell kind ∷ [])).rule ≡ false
apart-15b place kind step side from alike apart =
    let verdict = from_cells Second side (kind_cell kind ∷ []) in
    elim (is_15b verdict.rule) as (λ b. is_15b verdict.rule ≡ b → b ≡ false) [
      | true ↦ λ by. absurd (apart (from.shows side alike ∙ ap shown_of (from_cells-15b side (kind_cell kind) by)))
      | false ↦ λ _. refl
    ] refl

next-alike : (place number : ℕ) → IsPlace place → (step_by (steps_in Second) place number).next ≡ (step_by (steps_in First) place number).next
next-alike place number is_place =
    let row = place / 128 in
    let few = is_place.1 in
    ap (λ (s : Step). s.next) (step-copied Second row (number % 128) few (omega arith))
    ∙ next-same Second row (real_kind number) few (omega arith)
    ∙ sym (ap (λ (s : Step). s.next) (step-copied First row (number % 128) few (omega arith)))

pub flat-step : (place number : ℕ) → IsPlace place
    → IsFlatStep (left_at place) (kind_cell (real_kind number)) (step_by (steps_in First) place number) (step_by (steps_in Second) place number)
flat-step place number is_place =
    let kind = real_kind number in
    let cell = kind_cell kind in
    let one = step_by (steps_in First) place number in
    let other = step_by (steps_in Second) place number in
    let first = step-here First place number is_place in
    let second = step-here Second place number is_place in
    record {
      begins = first.begins;
      same = next-alike place number is_place;
      shows = (
        (from_cells First (known place) (cell ∷ []), first.shows (known place) (knows place)),
        (from_cells Second (known place) (cell ∷ []), second.shows (known place) (knows place)),
      );
      leads = first.leads;
      decides = λ side more alike. told-alone First place kind one side first alike ∙ from_cells-right First side cell [] more refl;
      closes = λ side more alike closed. told-alone Second place kind other side second alike ∙ sym (from_cells-right Second side cell more [] closed);
      settled = λ apart side more alike.
          told-alone Second place kind other side second alike
          ∙ sym (from_cells-settled Second side cell more (apart-15b place kind other side second alike apart));
      opens = λ held side more alike left_open.
          told-alone First place kind one side first alike
          ∙ from_cells-right First side cell [] more refl
          ∙ from_cells-open side cell more left_open
          (ap (λ v. is_15b v.rule) (sym (told-alone Second place kind other side second alike)) ∙ ap (λ n. is_15b (verdict_shown n).rule) held ∙ held-15b);
    }

-- its number is that of a verdict
pub shown-by : (profile : Profile) (place kind : ℕ) (step : Step) → IsStepFrom profile place kind step → IsShown step.shown
shown-by profile place kind step from = (from_cells profile (known place) (kind_cell kind ∷ []), from.shows (known place) (knows place))

-- the first row knows of no cell
pub left-start : left_at 0 ≡ facts []
unfolding left_at row_left
left-start = refl

-- Places

pub place-any : (number : ℕ) → IsPlace (place_by number)
place-any number = (omega arith, omega arith)

pub place-same : (number : ℕ) → IsPlace number → number ≡ place_by number
place-same number is_place = (let aligned = is_place.0 in let few = is_place.1 in omega arith)
