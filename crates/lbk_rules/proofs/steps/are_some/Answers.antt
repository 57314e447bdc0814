use Rattle.std.proofs.Common.{◌≡◌, ℕ, true, false, nat_lt, if◌then◌else◌, List, [], ◌∷◌, get_or, length, ap, ◌∙◌, sym, arith}
use Rattle.lbk_uax14.specs.Facts.{facts}
use Rattle.lbk_uax14.specs.Sides.{is_nothing}
use Rattle.lbk_rules.specs.Kinds.{kind_cell}
use Rattle.lbk_rules.specs.Rows.{cells_of}
use Rattle.lbk_rules.proofs.steps.are_some.Goals as goal

nearest : (kinds : List ℕ) → length kinds ≡ 3 → nat_lt (get_or kinds 0 0) 84 ≡ true → (facts (cells_of kinds)).empty ≡ false
unfolding facts
nearest [] many some = (let no : ⊥ = omega arith in absurd no)
nearest (kind ∷ kinds) many some = ap (λ b. is_nothing (if b then kind_cell kind ∷ cells_of kinds else cells_of kinds)) some

pub returns : goal.returns
returns c = λ some.
    let first : nat_lt (get_or c.args.kinds.now 0 0) 84 ≡ true = ap (λ n. nat_lt n 84) (sym c.from.ensures) ∙ some in
    nearest c.args.kinds.now (omega arith) first
