-- Behind a break the rules ask of the cells so far what they ask of those behind it alone.
use Rattle.std.proofs.Common.{◌≡◌, ℕ, ◌/◌, ◌%◌, ◌<◌, true, false, ◌||◌, ◌==◌, List, [], ◌∷◌, ◌++◌, map, reverse, inl, inr, refl, sym, ap, subst, ◌∙◌, arith, eqb-true, lit<}
use Rattle.std.proofs.lemmas.Bool.{and_parts, cases_lt}
use Rattle.std.proofs.lemmas.Bool.Decides.{eqb_tells}
use Rattle.std.proofs.lemmas.List.{append_assoc, map-append, reverse-append}
use Rattle.lbk_uax14.specs.declared.cells.Cell.{Cell}
use Rattle.lbk_values.specs.declared.profile.Profile.{Profile}
use Rattle.lbk_values.specs.declared.profile.Profile.TheVariants.{First, Second}
use Rattle.lbk_uax14.specs.Breaks.{is_no}
use Rattle.lbk_uax14.specs.Chain.{from_cells}
use Rattle.lbk_uax14.specs.Classes.{hard}
use Rattle.lbk_uax14.specs.Facts.{facts}
use Rattle.lbk_uax14.specs.Normal.{normal}
use Rattle.lbk_uax14.specs.Sides.{Side, leaves_closed}
use Rattle.lbk_uax14.specs.Units.{units_after}
use Rattle.lbk_uax14.specs.Verdict.{verdict_between_in}
use Rattle.lbk_uax14.proofs.ChainLemmas.{verdict_between-chain}
use Rattle.lbk_uax14.proofs.NormalLemmas.{between-normal, reverse-map}
use Rattle.lbk_rules.specs.declared.steps.TheConstants.{HELD}
use Rattle.lbk_rules.specs.Kinds.{kind_cell, kind_of, real_kind}
use Rattle.lbk_rules.specs.FlatTable.{IsFlatStep}
use Rattle.lbk_rules.specs.Rows.{IsPlace, left_at, step_by, step_of, steps_in, verdict_shown}
use Rattle.lbk_rules.proofs.AlikeLemmas.{facts-alike, from_cells-alike}
use Rattle.lbk_rules.proofs.FlatLemmas.{flat-step, left-start}
use Rattle.lbk_rules.proofs.KindsLemmas.{kind-cell, kind-few}
use Rattle.lbk_rules.proofs.RestartChecks.{anew_from_0, anew_from_32, anew_from_64, anew_from_96, row_anew, starts_anew}
use Rattle.lbk_rules.proofs.RowLemmas.{each-from, each_below-at, row-of, step-of}

all_anew : (row : ℕ) → row < 128 → row_anew row ≡ true
all_anew row few =
    elim (cases_lt row 32) [
      | inl below ↦ each-from row_anew 0 32 row anew_from_0 (omega arith) (omega arith)
      | inr from_32 ↦ elim (cases_lt row 64) [
        | inl below ↦ each-from row_anew 32 32 row anew_from_32 (omega arith) (omega arith)
        | inr from_64 ↦ elim (cases_lt row 96) [
          | inl below ↦ each-from row_anew 64 32 row anew_from_64 (omega arith) (omega arith)
          | inr from_96 ↦ each-from row_anew 96 32 row anew_from_96 (omega arith) (omega arith)
        ]
      ]
    ]

step-anew : (profile : Profile) (row kind : ℕ) → row < 128 → kind < 84 → starts_anew profile row kind ≡ true
step-anew First row kind few is_kind = each_below-at (starts_anew First row) 84 kind (and_parts _ _ (all_anew row few)).0 is_kind
step-anew Second row kind few is_kind = each_below-at (starts_anew Second row) 84 kind (and_parts _ _ (all_anew row few)).1 is_kind

-- where a line breaks by a step, it leads where the step from the first row leads
next-anew : (profile : Profile) (row kind : ℕ) → row < 128 → kind < 84
    → is_no (verdict_shown (step_of profile row kind).shown).kind ≡ false
    → (step_of profile row kind).next ≡ (step_of profile 0 kind).next
next-anew profile row kind few is_kind breaks =
    let anew = step-anew profile row kind few is_kind in
    let same : ((step_of profile row kind).next == (step_of profile 0 kind).next) ≡ true =
    sym (ap (λ b. b || (step_of profile row kind).next == (step_of profile 0 kind).next) breaks) ∙ anew in
    eqb-true _ _ same

module _ (side : Side) (place kind : ℕ) (is_place : IsPlace place) (is_kind : kind < 84) (knows : facts side ≡ left_at place) where
  abbrev row : ℕ
  row = place / 128

  -- then the row knows of nothing before the cell
  behind-step : (profile : Profile) → is_no (verdict_shown (step_of profile row kind).shown).kind ≡ false
      → facts (kind_cell kind ∷ side) ≡ facts (kind_cell kind ∷ [])
  behind-step profile breaks =
      let here = step-of profile place kind is_place.1 is_kind in
      let first = step-of profile 0 kind (lit< tt) is_kind in
      here.leads side knows ∙ ap left_at (next-anew profile row kind is_place.1 is_kind breaks) ∙ sym (first.leads [] (sym left-start))

  same-kind : real_kind kind ≡ kind
  same-kind = omega (arith, is_kind)

  same-number : kind % 128 ≡ kind
  same-number = omega (arith, is_kind)

  flat : IsFlatStep (left_at place) (kind_cell kind) (step_of First row kind) (step_of Second row kind)
  flat =
      subst (λ k. IsFlatStep (left_at place) (kind_cell kind) (step_of First row k) (step_of Second row k)) same-number
      (subst (λ k. IsFlatStep (left_at place) (kind_cell k) (step_by (steps_in First) place kind) (step_by (steps_in Second) place kind)) same-kind
      (flat-step place kind is_place))

  held-verdict : (more : Side) → is_no (from_cells Second side (kind_cell kind ∷ more)).kind ≡ false → (step_of Second row kind).shown ≡ HELD
      → facts (kind_cell kind ∷ side) ≡ facts (kind_cell kind ∷ [])
  held-verdict more breaks held =
      elim (leaves_closed (units_after (hard (kind_cell kind).class) more))
      as (λ b. leaves_closed (units_after (hard (kind_cell kind).class) more) ≡ b → facts (kind_cell kind ∷ side) ≡ facts (kind_cell kind ∷ [])) [
        | true ↦ λ closed. behind-step Second (ap (λ v. is_no v.kind) (flat.closes side more knows closed) ∙ breaks)
        | false ↦ λ left_open. behind-step First (ap (λ v. is_no v.kind) (flat.opens held side more knows left_open) ∙ breaks)
      ] refl

  -- whatever follows the cell
  behind-verdict : (profile : Profile) (more : Side) → is_no (from_cells profile side (kind_cell kind ∷ more)).kind ≡ false
      → facts (kind_cell kind ∷ side) ≡ facts (kind_cell kind ∷ [])
  behind-verdict First more breaks = behind-step First (ap (λ v. is_no v.kind) (flat.decides side more knows) ∙ breaks)
  behind-verdict Second more breaks =
      elim (eqb_tells (step_of Second row kind).shown HELD) [
        | inl held ↦ held-verdict more breaks held.1
        | inr free ↦ behind-step Second (ap (λ v. is_no v.kind) (flat.settled free.1 side more knows) ∙ breaks)
      ]

-- and so for all cells that follow
facts-more : (more a b : Side) → facts a ≡ facts b → facts (more ++ a) ≡ facts (more ++ b)
facts-more [] a b same = same
facts-more (cell ∷ more) a b same = facts-alike cell (more ++ a) (more ++ b) (facts-more more a b same)

-- the cells of a break's left and of what follows it, read outwards
outwards : (left : List Cell) (cell : Cell) (more : List Cell)
    → reverse (map normal (left ++ cell ∷ more)) ≡ reverse (map normal more) ++ normal cell ∷ reverse (map normal left)
outwards left cell more =
    ap reverse (map-append normal left (cell ∷ more))
    ∙ reverse-append (map normal left) (normal cell ∷ map normal more)
    ∙ ap (λ l. l ++ reverse (map normal left)) (reverse-append (normal cell ∷ []) (map normal more))
    ∙ append_assoc (reverse (map normal more)) (normal cell ∷ []) (reverse (map normal left))

verdict-of : (profile : Profile) (left right : List Cell)
    → verdict_between_in profile left right ≡ from_cells profile (reverse (map normal left)) (map normal right)
verdict-of profile left right = sym (between-normal profile left right) ∙ verdict_between-chain profile (map normal left) (map normal right)

-- behind a break the rules ask what they ask of the text that begins there
pub facts-anew : (profile : Profile) (left : List Cell) (cell : Cell) (after : List Cell)
    → is_no (verdict_between_in profile left (cell ∷ after)).kind ≡ false
    → facts (normal cell ∷ reverse (map normal left)) ≡ facts (normal cell ∷ [])
facts-anew profile left cell after breaks =
    let side = reverse (map normal left) in
    let known = row-of (reverse left) in
    let knows : facts side ≡ left_at known.0 = ap facts (reverse-map normal left) ∙ known.2 in
    let kind = kind_of cell in
    let here : is_no (from_cells profile side (kind_cell kind ∷ map normal after)).kind ≡ false =
    ap (λ c. is_no (from_cells profile side (c ∷ map normal after)).kind) (kind-cell cell)
    ∙ ap (λ v. is_no v.kind) (sym (verdict-of profile left (cell ∷ after))) ∙ breaks in
    subst (λ c. facts (c ∷ side) ≡ facts (c ∷ [])) (kind-cell cell)
    (behind-verdict side known.0 kind known.1 (kind-few cell) knows profile (map normal after) here)

-- after a break nothing before it counts
pub between-anew : (profile : Profile) (left : List Cell) (cell : Cell) (more right : List Cell)
    → is_no (verdict_between_in profile left (cell ∷ more ++ right)).kind ≡ false
    → verdict_between_in profile (left ++ cell ∷ more) right ≡ verdict_between_in profile (cell ∷ more) right
between-anew profile left cell more right breaks =
    let side = reverse (map normal left) in
    verdict-of profile (left ++ cell ∷ more) right
    ∙ from_cells-alike profile (reverse (map normal (left ++ cell ∷ more))) (reverse (map normal (cell ∷ more))) (map normal right)
    (ap facts (outwards left cell more)
    ∙ facts-more (reverse (map normal more)) (normal cell ∷ side) (normal cell ∷ []) (facts-anew profile left cell (more ++ right) breaks)
    ∙ ap facts (sym (outwards [] cell more)))
    ∙ sym (verdict-of profile (cell ∷ more) right)
