-- The rows of steps: each knows of the cells so far what the rules ask of its sample, and has a step for each kind.
use Rattle.std.specs.Prelude.{◌≡◌, ℕ, ◌+◌, ◌*◌, ◌/◌, ◌%◌, ◌<◌, List, [], ◌∷◌, if◌then◌else◌, nat_lt, slice_index_or}
use Rattle.lbk_uax14.specs.declared.facts.Left.{Left}
use Rattle.lbk_uax14.specs.declared.verdicts.Verdict.{Verdict}
use Rattle.lbk_rules.specs.declared.row_steps.TheConstants.{FIRST_STEPS, ROWS, SAMPLES, SECOND_STEPS}
use Rattle.lbk_rules.specs.declared.steps.Step.{Step}
use Rattle.lbk_rules.specs.declared.steps.TheConstants.{WIDTH}
use Rattle.lbk_values.specs.declared.profile.Profile.{Profile}
use Rattle.lbk_values.specs.declared.profile.Profile.TheVariants.{First, Second}
use Rattle.lbk_uax14.specs.Chain.{from_cells}
use Rattle.lbk_uax14.specs.Codes.{kind_number, kind_numbered, rule_number, rule_numbered}
use Rattle.lbk_uax14.specs.Facts.{facts}
use Rattle.lbk_uax14.specs.Sides.{Side}
use Rattle.lbk_rules.specs.Kinds.{kind_cell}

-- a side with a cell of this kind more, or the same where no kind has the number
abbrev pub with_kind : ℕ → Side → Side
with_kind kind side = if nat_lt kind 84 then kind_cell kind ∷ side else side

-- the cells of some kinds
abbrev pub cells_of : List ℕ → Side
cells_of [] = []
cells_of (kind ∷ kinds) = with_kind kind (cells_of kinds)

-- some cells of which a row knows, nearest first
abbrev pub sample : ℕ → Side
sample row = cells_of (slice_index_or SAMPLES row [])

-- what a row knows
unfoldable pub row_left : ℕ → Left
row_left row = facts (sample row)

-- the number of a verdict: 256 times that of its rule, and that of its kind
abbrev pub shown_of : Verdict → ℕ
shown_of verdict = 256 * rule_number verdict.rule + kind_number verdict.kind

-- the verdict of such a number
unfoldable pub verdict_shown : ℕ → Verdict
verdict_shown shown = record { kind = kind_numbered (shown % 256); rule = rule_numbered (shown / 256) }

-- the number is that of a verdict
abbrev pub IsShown : ℕ → Type 0
IsShown shown = (verdict : Verdict) × (shown ≡ shown_of verdict)

-- a step that stands nowhere
abbrev pub no_step : Step
no_step = record { shown = 0; next = 0 }

-- the steps of a profile
abbrev pub steps_in : Profile → List (List Step)
steps_in First = FIRST_STEPS
steps_in Second = SECOND_STEPS

-- the step from a row by a kind
abbrev pub step_of : Profile → ℕ → ℕ → Step
step_of profile row kind = slice_index_or (slice_index_or (steps_in profile) row []) kind no_step

-- these are the steps of some profile
abbrev pub AreSteps : List (List Step) → Type 0
AreSteps steps = (profile : Profile) × (steps ≡ steps_in profile)

-- the step from the row at a place by a number of 8 bits, of which the lowest 7 count
abbrev pub step_by : List (List Step) → ℕ → ℕ → Step
step_by steps place kind = slice_index_or (slice_index_or steps (place / 128) []) (kind % 128) no_step

-- a row begins at this place
abbrev pub IsPlace : ℕ → Type 0
IsPlace place = (place % WIDTH ≡ 0) × (place / WIDTH < ROWS)

-- the place of a row by a number of 16 bits: it, if a row begins there
abbrev pub place_by : ℕ → ℕ
place_by number = number % 16384 / 128 * 128

-- what the row at a place knows
unfoldable pub left_at : ℕ → Left
left_at place = row_left (place / 128)

-- what a step from the row at a place by a cell tells: the verdict before the cell as if nothing followed, and the
-- row that knows of the cell too
pub record IsStepFrom (profile : Profile) (place kind : ℕ) (step : Step) : Type 0 where
  pub begins : IsPlace step.next
  pub leads : (side : Side) → facts side ≡ left_at place → facts (kind_cell kind ∷ side) ≡ left_at step.next
  pub shows : (side : Side) → facts side ≡ left_at place
      → step.shown ≡ shown_of (from_cells profile side (kind_cell kind ∷ []))
