use Rattle.std.proofs.Common.{◌≡◌, ℕ, List, [], ◌∷◌, get_or, length, refl, sym, ap, ◌∙◌, arith}
use Rattle.lbk_uax14.specs.Facts.{facts}
use Rattle.lbk_rules.specs.Rows.{cells_of, with_kind}
use Rattle.lbk_rules.proofs.steps.known_of.Goals as goal

three : (kinds : List ℕ) → length kinds ≡ 3 → with_kind (get_or kinds 0 0) (with_kind (get_or kinds 1 0) (with_kind (get_or kinds 2 0) [])) ≡ cells_of kinds
three [] many = (let no : ⊥ = omega arith in absurd no)
three (_ ∷ []) many = (let no : ⊥ = omega arith in absurd no)
three (_ ∷ _ ∷ []) many = (let no : ⊥ = omega arith in absurd no)
three (_ ∷ _ ∷ _ ∷ []) many = refl
three (_ ∷ _ ∷ _ ∷ _ ∷ more) many = (let no : ⊥ = omega arith in absurd no)

pub returns : goal.returns
returns c =
    let kinds = c.args.kinds.now in
    let third = with_kind (get_or kinds 2 0) [] in
    let second = with_kind (get_or kinds 1 0) third in
    let far = c.with_kind-far.ensures [] (sym c.start.ensures) in
    c.with_kind-2.ensures second (sym (c.with_kind.ensures third (sym far))) ∙ ap facts (three kinds (omega arith))
