-- The tables have the steps of all rows, and each list of cells has a row.
use Rattle.std.proofs.Common.{◌≡◌, ℕ, ◌+◌, ◌-◌, ◌*◌, ◌/◌, ◌%◌, ◌<◌, ◌≤◌, Bool, true, zero, suc, List, [], ◌∷◌, map, inl, inr, refl, sym, ap, subst, ◌∙◌, arith, eqb-true, ltb-true, lit<, not-suc-le-zero}
use Rattle.std.proofs.lemmas.Bool.{and_parts, cases_lt}
use Rattle.lbk_uax14.specs.declared.cells.Cell.{Cell}
use Rattle.lbk_values.specs.declared.profile.Profile.{Profile}
use Rattle.lbk_values.specs.declared.profile.Profile.TheVariants.{First, Second}
use Rattle.lbk_uax14.specs.Chain.{from_cells}
use Rattle.lbk_uax14.specs.Facts.{facts}
use Rattle.lbk_uax14.specs.Normal.{normal}
use Rattle.lbk_rules.specs.declared.steps.Step.{Step}
use Rattle.lbk_rules.specs.Kinds.{kind_cell, kind_of}
use Rattle.lbk_rules.specs.Rows.{IsPlace, IsStepFrom, left_at, row_left, sample, shown_of, step_of}
use Rattle.lbk_rules.proofs.AlikeLemmas.{facts-alike, from_cells-alike}
use Rattle.lbk_rules.proofs.KindsLemmas.{kind-cell, kind-few}
use Rattle.lbk_rules.proofs.LeftLemmas.{left_Decides}
use Rattle.lbk_rules.proofs.RowChecks.{each_below, is_copy, leads_right, row_right, rows_from_0, rows_from_114, rows_from_19, rows_from_38, rows_from_57, rows_from_76, rows_from_95, same_next, shows_right}

pub each_below-at : (p : ℕ → Bool) (n j : ℕ) → each_below p n ≡ true → j < n → p j ≡ true
unfolding each_below
each_below-at p zero j h lt = absurd (not-suc-le-zero lt)
each_below-at p (suc n) j h lt =
    let parts = and_parts (p n) (each_below p n) h in
    elim (cases_lt j n) [
      | inl below ↦ each_below-at p n j parts.1 below
      | inr last ↦ let at : n ≡ j = omega arith in subst (λ k. p k ≡ true) at parts.0
    ]

-- each number of so many from one on passes
pub each-from : (p : ℕ → Bool) (from many n : ℕ) → each_below (λ j. p (from + j)) many ≡ true → from ≤ n → n < from + many → p n ≡ true
each-from p from many n all least below =
    let same : from + (n - from) ≡ n = omega arith in
    subst (λ k. p k ≡ true) same (each_below-at (λ j. p (from + j)) many (n - from) all (omega arith))

all_right : (row : ℕ) → row < 128 → row_right row ≡ true
all_right row few =
    elim (cases_lt row 19) [
      | inl below ↦ each-from row_right 0 19 row rows_from_0 (omega arith) (omega arith)
      | inr from_19 ↦ elim (cases_lt row 38) [
        | inl below ↦ each-from row_right 19 19 row rows_from_19 (omega arith) (omega arith)
        | inr from_38 ↦ elim (cases_lt row 57) [
          | inl below ↦ each-from row_right 38 19 row rows_from_38 (omega arith) (omega arith)
          | inr from_57 ↦ elim (cases_lt row 76) [
            | inl below ↦ each-from row_right 57 19 row rows_from_57 (omega arith) (omega arith)
            | inr from_76 ↦ elim (cases_lt row 95) [
              | inl below ↦ each-from row_right 76 19 row rows_from_76 (omega arith) (omega arith)
              | inr from_95 ↦ elim (cases_lt row 114) [
                | inl below ↦ each-from row_right 95 19 row rows_from_95 (omega arith) (omega arith)
                | inr from_114 ↦ each-from row_right 114 14 row rows_from_114 (omega arith) (omega arith)
              ]
            ]
          ]
        ]
      ]
    ]

-- what was compared of a row
record IsRight (row : ℕ) : Type 0 where
  leads : each_below (leads_right row) 84 ≡ true
  first : each_below (shows_right First row) 84 ≡ true
  second : each_below (shows_right Second row) 84 ≡ true
  same : each_below (same_next row) 84 ≡ true
  first_copies : each_below (is_copy First row) 44 ≡ true
  second_copies : each_below (is_copy Second row) 44 ≡ true

is-right : (row : ℕ) → row < 128 → IsRight row
is-right row few =
    let p = and_parts _ _ (all_right row few) in
    let q = and_parts _ _ p.1 in
    let r = and_parts _ _ q.1 in
    let s = and_parts _ _ r.1 in
    let t = and_parts _ _ s.1 in
    record { leads = p.0; first = q.0; second = r.0; same = s.0; first_copies = t.0; second_copies = t.1 }

shows : (profile : Profile) (row kind : ℕ) → row < 128 → kind < 84
    → (step_of profile row kind).shown ≡ shown_of (from_cells profile (sample row) (kind_cell kind ∷ []))
shows First row kind few is_kind = eqb-true _ _ (each_below-at (shows_right First row) 84 kind (is-right row few).first is_kind)
shows Second row kind few is_kind = eqb-true _ _ (each_below-at (shows_right Second row) 84 kind (is-right row few).second is_kind)

pub next-same : (profile : Profile) (row kind : ℕ) → row < 128 → kind < 84 → (step_of profile row kind).next ≡ (step_of First row kind).next
next-same First row kind few is_kind = refl
next-same Second row kind few is_kind = eqb-true _ _ (each_below-at (same_next row) 84 kind (is-right row few).same is_kind)

-- the step by a kind, for these cells and for all that are like them
pub step-of : (profile : Profile) (place kind : ℕ) → place / 128 < 128 → kind < 84 → IsStepFrom profile place kind (step_of profile (place / 128) kind)
unfolding left_at row_left
step-of profile place kind few is_kind =
    let row = place / 128 in
    let next = (step_of First row kind).next in
    let same = next-same profile row kind few is_kind in
    let right = and_parts _ _ (each_below-at (leads_right row) 84 kind (is-right row few).leads is_kind) in
    let more = and_parts _ _ right.1 in
    let begins : next ≡ 128 * (next / 128) = eqb-true _ _ right.0 in
    let low : next / 128 < 128 = ltb-true _ 128 more.0 in
    let place_first : IsPlace next = (omega arith, low) in
    let known : facts (kind_cell kind ∷ sample row) ≡ row_left (next / 128) = (left_Decides (facts (kind_cell kind ∷ sample row)) (row_left (next / 128))).0 more.1 in
    record {
      begins = subst IsPlace (sym same) place_first;
      leads = λ side alike. facts-alike (kind_cell kind) side (sample row) alike ∙ known ∙ ap (λ n. row_left (n / 128)) (sym same);
      shows = λ side alike. shows profile row kind few is_kind ∙ ap shown_of (sym (from_cells-alike profile side (sample row) (kind_cell kind ∷ []) alike));
    }

step_from_fields : (one other : Step) → one.shown ≡ other.shown → one.next ≡ other.next → one ≡ other
step_from_fields one other shown next = λ i. record { shown = shown i; next = next i }

copies : (profile : Profile) (row : ℕ) → row < 128 → each_below (is_copy profile row) 44 ≡ true
copies First row few = (is-right row few).first_copies
copies Second row few = (is-right row few).second_copies

copy : (profile : Profile) (row kind : ℕ) → row < 128 → kind < 44 → step_of profile row (84 + kind) ≡ step_of profile row kind
copy profile row kind few low =
    let same = and_parts _ _ (each_below-at (is_copy profile row) 44 kind (copies profile row few) low) in
    step_from_fields _ _ (eqb-true _ _ same.0) (eqb-true _ _ same.1)

-- whatever the number is, it is that of a kind
pub step-copied : (profile : Profile) (row number : ℕ) → row < 128 → number < 128 → step_of profile row number ≡ step_of profile row (number % 84)
step-copied profile row number low few =
    elim (cases_lt number 84) [
      | inl below ↦ let is : number ≡ number % 84 = omega arith in ap (step_of profile row) is
      | inr past ↦
          let back : number ≡ 84 + number % 84 = omega arith in
          ap (step_of profile row) back ∙ copy profile row (number % 84) low (omega arith)
    ]

pub step-by : (profile : Profile) (place number : ℕ) → IsPlace place → number < 128
    → IsStepFrom profile place (number % 84) (step_of profile (place / 128) number)
step-by profile place number is_place few =
    subst (λ step. IsStepFrom profile place (number % 84) step) (sym (step-copied profile (place / 128) number is_place.1 few))
    (step-of profile place (number % 84) is_place.1 (omega arith))

-- whatever the cells are, some row knows of them what the rules ask
pub row-of : (side : List Cell) → (place : ℕ) × IsPlace place × (facts (map normal side) ≡ left_at place)
unfolding left_at row_left
row-of [] = (0, (refl, lit< tt), refl)
row-of (cell ∷ side) =
    let before = row-of side in
    let kind = kind_of cell in
    let low : kind < 84 = kind-few cell in
    let step = step-of First before.0 kind before.1.1 low in (
      (step_of First (before.0 / 128) kind).next,
      step.begins,
      ap (λ c. facts (c ∷ map normal side)) (sym (kind-cell cell)) ∙ step.leads (map normal side) before.2,
    )
