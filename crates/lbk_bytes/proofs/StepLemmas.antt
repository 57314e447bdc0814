-- What a step says of the text.
use Rattle.std.proofs.Common.{◌≡◌, ◌⊎◌, ℕ, ◌<◌, ◌≤◌, Bool, true, false, List, [], ◌∷◌, ◌++◌, get_or, map, reverse, refl, sym, ap, subst, ◌∙◌, ⊎_elim, arith}
use Rattle.std.proofs.lemmas.Bool.{cases_lt}
use Rattle.std.specs.Char.{IsScalar}
use Rattle.lbk_rules.specs.declared.Cell.{Cell}
use Rattle.lbk_rules.specs.declared.Left.{Left}
use Rattle.lbk_rules.specs.declared.steps.Step.{Step}
use Rattle.lbk_rules.specs.declared.neighbours.Neighbours.{Neighbours}
use Rattle.lbk_values.specs.declared.profile.Profile.{Profile}
use Rattle.lbk_values.specs.declared.profile.Profile.TheVariants.{First, Second}
use Rattle.lbk_rules.specs.Chain.{from_cells}
use Rattle.lbk_rules.specs.Classes.{hard}
use Rattle.lbk_rules.specs.Facts.{facts}
use Rattle.lbk_rules.specs.FlatTable.{AreFlatKinds, IsFlatBy, IsFlatStep, KnowsTaken}
use Rattle.lbk_rules.specs.Kinds.{kind_cell, real_kind}
use Rattle.lbk_rules.specs.Normal.{normal}
use Rattle.lbk_rules.specs.RowMachineFits.{normals}
use Rattle.lbk_rules.specs.Sides.{Side, leaves_closed}
use Rattle.lbk_rules.specs.Units.{units_after}
use Rattle.lbk_rules.specs.Verdict.{verdict_between_in}
use Rattle.lbk_rules.proofs.AheadLemmas.{ahead-normal}
use Rattle.lbk_rules.proofs.FlatLemmas.{flat-step}
use Rattle.lbk_rules.proofs.RowMachineLemmas.{normals-back}
use Rattle.lbk_rules.specs.declared.steps.TheConstants.{HELD}
use Rattle.lbk_rules.specs.Neighbours.{AreTold}
use Rattle.lbk_rules.specs.Rows.{IsPlace, left_at, step_by, steps_in, verdict_shown}

-- the row that a step leads to knows of the scalar too
pub knows-more : (cell : ℕ → Cell) (row next c kind : ℕ) → kind_cell kind ≡ normal (cell c) → IsPlace next
    → ((side : Side) → facts side ≡ left_at row → facts (kind_cell kind ∷ side) ≡ left_at next)
    → (taken : List ℕ) → KnowsTaken cell row taken → KnowsTaken cell next (taken ++ c ∷ [])
knows-more cell row next c kind same begins leads taken known =
    let side = reverse (normals cell taken) in (
      begins,
      sym (leads side (sym known.1)) ∙ ap (λ x. facts (x ∷ side)) same ∙ sym (ap facts (normals-back cell taken c)),
    )

-- a verdict of the normal cells is one of the scalars
pub decides-text : (profile : Profile) (cell : ℕ → Cell) (taken : List ℕ) (c kind shown : ℕ) (right : List Cell) → kind_cell kind ≡ normal (cell c)
    → verdict_shown shown ≡ from_cells profile (reverse (normals cell taken)) (kind_cell kind ∷ map normal right)
    → verdict_shown shown ≡ verdict_between_in profile (map cell taken) (cell c ∷ right)
decides-text profile cell taken c kind shown right same decides =
    decides
    ∙ ap (λ x. from_cells profile (reverse (normals cell taken)) (x ∷ map normal right)) same
    ∙ ahead-normal profile cell taken (cell c ∷ right)

-- a step by which a position is decided, unless it is held
pub record IsSwiftStep (profile : Profile) (left : Left) (cell : Cell) (step : Step) : Type 0 where
  pub begins : IsPlace step.next
  pub leads : (side : Side) → facts side ≡ left → facts (cell ∷ side) ≡ left_at step.next
  pub decides : ¬ (step.shown ≡ HELD) → (side more : Side) → facts side ≡ left
      → verdict_shown step.shown ≡ from_cells profile side (cell ∷ more)

swift-step-in : (profile : Profile) (row number : ℕ) → IsPlace row
    → IsSwiftStep profile (left_at row) (kind_cell (real_kind number)) (step_by (steps_in profile) row number)
swift-step-in First row number is_place =
    let step = flat-step row number is_place in
    record { begins = step.begins; leads = step.leads; decides = λ _. step.decides }
swift-step-in Second row number is_place =
    let step = flat-step row number is_place in
    record {
      begins = subst IsPlace (sym step.same) step.begins;
      leads = λ side known. step.leads side known ∙ ap left_at (sym step.same);
      decides = step.settled;
    }

-- the steps of a profile are such
pub swift-step : (profile : Profile) (steps : List (List Step)) (row number : ℕ) → steps ≡ steps_in profile → IsPlace row
    → IsSwiftStep profile (left_at row) (kind_cell (real_kind number)) (step_by steps row number)
swift-step profile steps row number are is_place =
    subst (λ s. IsSwiftStep profile (left_at row) (kind_cell (real_kind number)) (step_by s row number)) (sym are) (swift-step-in profile row number is_place)

-- where a profile has the steps of the first, none of them leaves a position held
pub settles-as-first : (profile : Profile) (row number : ℕ) → steps_in profile ≡ steps_in First → IsPlace row
    → (side more : Side) → facts side ≡ left_at row
    → verdict_shown (step_by (steps_in profile) row number).shown ≡ from_cells profile side (kind_cell (real_kind number) ∷ more)
settles-as-first First row number same is_place = (flat-step row number is_place).decides
settles-as-first Second row number same is_place = λ side more known.
    let cell = kind_cell (real_kind number) in
    let one = step_by (steps_in First) row number in
    let other = step_by (steps_in Second) row number in
    let step = flat-step row number is_place in
    let Decides : Type 0 = verdict_shown other.shown ≡ from_cells Second side (cell ∷ more) in
    let is_one : verdict_shown other.shown ≡ verdict_shown one.shown = ap (λ s. verdict_shown (step_by s row number).shown) same in
    let held : other.shown ≡ HELD → Decides = λ at_15b.
    (elim (leaves_closed (units_after (hard cell.class) more)) as (λ (b : Bool). leaves_closed (units_after (hard cell.class) more) ≡ b → Decides) [
      | true ↦ λ closed. step.closes side more known closed
      | false ↦ λ stays. is_one ∙ step.opens at_15b side more known stays
    ]) refl in
    ⊎_elim (λ (low : other.shown < HELD). step.settled (λ same. omega arith) side more known)
    (λ (most : HELD ≤ other.shown).
    ⊎_elim (λ (high : HELD < other.shown). step.settled (λ same. omega arith) side more known)
    (λ (least : other.shown ≤ HELD). held (omega arith)) (cases_lt HELD other.shown)) (cases_lt other.shown HELD)

-- a step settles the position before its scalar: it does not leave it held, or it is one of the first profile's
abbrev pub Settles : List (List Step) → Step → Type 0
Settles steps step = ¬ (step.shown ≡ HELD) ⊎ (steps ≡ steps_in First)

-- so is the position decided
pub settled-step : (profile : Profile) (steps : List (List Step)) (row number : ℕ) → steps ≡ steps_in profile → IsPlace row
    → Settles steps (step_by steps row number) → (side more : Side) → facts side ≡ left_at row
    → verdict_shown (step_by steps row number).shown ≡ from_cells profile side (kind_cell (real_kind number) ∷ more)
settled-step profile steps row number are is_place settles side more known =
    ⊎_elim (λ (apart : ¬ ((step_by steps row number).shown ≡ HELD)). (swift-step profile steps row number are is_place).decides apart side more known)
    (λ (first : steps ≡ steps_in First).
    subst (λ s. verdict_shown (step_by s row number).shown ≡ from_cells profile side (kind_cell (real_kind number) ∷ more)) (sym are)
    (settles-as-first profile row number (sym are ∙ first) is_place side more known)) settles

-- what is known of bytes side by side
pub told-as : (profile : Profile) (kinds : List ℕ) (pairs there : Neighbours) (cell : ℕ → Cell) (steps : List (List Step)) → IsFlatBy kinds pairs cell
    → there ≡ pairs → steps ≡ steps_in profile → AreTold steps kinds there
told-as profile kinds pairs there cell steps flat same is =
    subst (AreTold steps kinds) (sym same) (subst (λ s. AreTold s kinds pairs) (sym is) (flat.told profile))

-- the steps of a scalar
pub steps-here : (row number : ℕ) (one other : Step) → IsPlace row
    → one ≡ step_by (steps_in First) row number → other ≡ step_by (steps_in Second) row number
    → IsFlatStep (left_at row) (kind_cell (real_kind number)) one other
steps-here row number one other is_place is_one is_other =
    let cell = kind_cell (real_kind number) in
    subst (λ s. IsFlatStep (left_at row) cell one s) (sym is_other)
    (subst (λ s. IsFlatStep (left_at row) cell s (step_by (steps_in Second) row number)) (sym is_one) (flat-step row number is_place))

-- the position before a scalar of a text, in the first profile
pub decides-first : (kinds : List ℕ) (cell : ℕ → Cell) (taken : List ℕ) (row c : ℕ) (one : Step) (right : List Cell)
    → AreFlatKinds kinds cell → KnowsTaken cell row taken → IsScalar c → one ≡ step_by (steps_in First) row (get_or kinds c 0)
    → verdict_shown one.shown ≡ verdict_between_in First (map cell taken) (cell c ∷ right)
decides-first kinds cell taken row c one right are known scalar is_one =
    let kind = get_or kinds c 0 in
    let step = steps-here row kind one (step_by (steps_in Second) row kind) known.0 is_one refl in
    decides-text First cell taken c (real_kind kind) one.shown right (are c scalar)
    (step.decides (reverse (normals cell taken)) (map normal right) (sym known.1))

-- the same in the second profile, where rule 15b does not decide
pub decides-apart : (kinds : List ℕ) (cell : ℕ → Cell) (taken : List ℕ) (row c : ℕ) (other : Step) (right : List Cell)
    → AreFlatKinds kinds cell → KnowsTaken cell row taken → IsScalar c → other ≡ step_by (steps_in Second) row (get_or kinds c 0)
    → ¬ (other.shown ≡ HELD)
    → verdict_shown other.shown ≡ verdict_between_in Second (map cell taken) (cell c ∷ right)
decides-apart kinds cell taken row c other right are known scalar is_other apart =
    let kind = get_or kinds c 0 in
    let step = steps-here row kind (step_by (steps_in First) row kind) other known.0 refl is_other in
    decides-text Second cell taken c (real_kind kind) other.shown right (are c scalar)
    (step.settled apart (reverse (normals cell taken)) (map normal right) (sym known.1))

-- where what follows leaves the mark closed
pub decides-closed : (kinds : List ℕ) (cell : ℕ → Cell) (taken : List ℕ) (row c : ℕ) (other : Step) (right : List Cell)
    → AreFlatKinds kinds cell → KnowsTaken cell row taken → IsScalar c → other ≡ step_by (steps_in Second) row (get_or kinds c 0)
    → leaves_closed (units_after (hard (normal (cell c)).class) (map normal right)) ≡ true
    → verdict_shown other.shown ≡ verdict_between_in Second (map cell taken) (cell c ∷ right)
decides-closed kinds cell taken row c other right are known scalar is_other closed =
    let kind = get_or kinds c 0 in
    let step = steps-here row kind (step_by (steps_in First) row kind) other known.0 refl is_other in
    decides-text Second cell taken c (real_kind kind) other.shown right (are c scalar)
    (step.closes (reverse (normals cell taken)) (map normal right) (sym known.1)
    (ap (λ (x : Cell). leaves_closed (units_after (hard x.class) (map normal right))) (are c scalar) ∙ closed))

-- where it leaves the mark open
pub decides-open : (kinds : List ℕ) (cell : ℕ → Cell) (taken : List ℕ) (row c : ℕ) (one other : Step) (right : List Cell)
    → AreFlatKinds kinds cell → KnowsTaken cell row taken → IsScalar c → one ≡ step_by (steps_in First) row (get_or kinds c 0)
    → other ≡ step_by (steps_in Second) row (get_or kinds c 0) → other.shown ≡ HELD
    → leaves_closed (units_after (hard (normal (cell c)).class) (map normal right)) ≡ false
    → verdict_shown one.shown ≡ verdict_between_in Second (map cell taken) (cell c ∷ right)
decides-open kinds cell taken row c one other right are known scalar is_one is_other held stays =
    let kind = get_or kinds c 0 in
    let step = steps-here row kind one other known.0 is_one is_other in
    decides-text Second cell taken c (real_kind kind) one.shown right (are c scalar)
    (step.opens held (reverse (normals cell taken)) (map normal right) (sym known.1)
    (ap (λ (x : Cell). leaves_closed (units_after (hard x.class) (map normal right))) (are c scalar) ∙ stays))
