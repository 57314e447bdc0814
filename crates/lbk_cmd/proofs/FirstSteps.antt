-- The steps of the first profile, in which no position is held.
use Rattle.std.proofs.Common.{◌≡◌, ℕ, false, cond, Option, Some, None, List, [], ◌∷◌, ◌++◌, map, reverse, refl, sym, ap, ◌∙◌, arith}
use Rattle.std.specs.Option.{option_map}
use Rattle.lbk_rules.specs.declared.Cell.{Cell}
use Rattle.lbk_rules.specs.declared.Verdict.{Verdict}
use Rattle.lbk_rules.specs.declared.steps.Step.{Step}
use Rattle.lbk_values.specs.declared.profile.Profile.TheVariants.{First}
use Rattle.lbk_rules.specs.Chain.{from_cells}
use Rattle.lbk_rules.specs.Facts.{facts}
use Rattle.lbk_rules.specs.FlatTable.{KnowsTaken}
use Rattle.lbk_rules.specs.Held.{answer_at, is_15b, late_at, now_at}
use Rattle.lbk_rules.specs.Kinds.{kind_of, real_kind}
use Rattle.lbk_rules.specs.Normal.{normal, normals}
use Rattle.lbk_rules.specs.Rows.{IsPlace, IsStepFrom, left_at, row_left, shown_of, step_by, steps_in}
use Rattle.lbk_rules.specs.Verdict.{verdict_in}
use Rattle.lbk_rules.proofs.FlatLemmas.{step-made}
use Rattle.lbk_rules.proofs.HeldLemmas.{from_cells-first}
use Rattle.lbk_rules.proofs.RowMachineLemmas.{kind_same, normals-back, now-told, so_far-decides, so_far-held, so_far-normal}
use Rattle.lbk_rules.proofs.StepLemmas.{late_at-first, unanswered-first}

-- the row at 0 knows of no scalar
pub knows-none : (cell : ℕ → Cell) → KnowsTaken cell 0 []
unfolding left_at row_left
knows-none cell = ((refl, omega arith), refl)

module _ (cell : ℕ → Cell) (row kind c : ℕ) (step : Step) (place : IsPlace row) (kind_is : kind ≡ kind_of (cell c)) (read : step ≡ step_by (steps_in First) row kind) where
  made : IsStepFrom First row (real_kind kind) step
  made = step-made First (steps_in First) row kind step refl place read

  pub next-place : IsPlace step.next
  next-place = made.begins

  pub knows-more : (taken : List ℕ) → KnowsTaken cell row taken → KnowsTaken cell step.next (taken ++ c ∷ [])
  knows-more taken known =
      let side = reverse (normals cell taken) in (
        made.begins,
        sym (ap facts (normals-back cell taken c)
            ∙ ap (λ n. facts (n ∷ side)) (sym (kind_same cell c kind kind_is))
            ∙ made.leads side (sym known.1)),
      )

  shows : (taken : List ℕ) → KnowsTaken cell row taken → step.shown ≡ shown_of (from_cells First (reverse (map cell taken)) (cell c ∷ []))
  shows taken known =
      let side = reverse (normals cell taken) in
      made.shows side (sym known.1)
      ∙ ap shown_of (ap (λ n. from_cells First side (n ∷ [])) (kind_same cell c kind kind_is)
      ∙ so_far-normal First cell taken c (from_cells First side (normal (cell c) ∷ [])) refl)

  pub told : (verdict : Verdict) → ((v : Verdict) → step.shown ≡ shown_of v → verdict ≡ v) → (taken : List ℕ) (others : List Cell) → KnowsTaken cell row taken
      → Some verdict ≡ now_at First (map cell taken) (cell c ∷ others)
  told verdict given taken others known =
      let is = given (from_cells First (reverse (map cell taken)) (cell c ∷ [])) (shows taken known) in
      let settled : is_15b verdict.rule ≡ false = ap (λ v. is_15b v.rule) is ∙ from_cells-first (reverse (map cell taken)) (cell c ∷ []) in
      sym (ap (λ v. cond v None (Some verdict)) settled)
      ∙ now-told First cell taken c others verdict (so_far-held First cell taken c others verdict is) (so_far-decides First cell taken c others verdict is)

pub none-late : (cell : ℕ → Cell) (c : ℕ) (taken : List ℕ) (others : List Cell) → None ≡ late_at First (map cell taken) (cell c) others
none-late cell c taken others = sym (late_at-first (map cell taken) (cell c) others)

pub none-at-end : (cell : ℕ → Cell) (taken : List ℕ) → None ≡ answer_at First (map cell taken) []
none-at-end cell taken = sym (ap (option_map (λ p. (p, verdict_in First (map cell taken ++ []) p))) (unanswered-first (map cell taken)))
