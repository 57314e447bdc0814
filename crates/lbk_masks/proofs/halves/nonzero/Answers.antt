use Rattle.std.proofs.Common.{◌≡◌, ℕ, ◌==◌, leb, not, get_or, sym, ap, ◌∙◌, ⊎_elim, arith}
use Rattle.std.proofs.lemmas.Bool.{cases_eq, eq-eqb, le-leb, ne_eqb}
use Rattle.lbk_masks.proofs.halves.nonzero.Goals as goal

-- a number that is not 0 is no less than 1
no-less-one : (n : ℕ) → leb 1 n ≡ not (n == 0)
no-less-one n =
    ⊎_elim
    (λ (none : n ≡ 0). ap (λ m. leb 1 m) none ∙ ap not (sym (eq-eqb n 0 none)))
    (λ (some : n ≡ 0 → ⊥). le-leb 1 n (omega arith) ∙ ap not (sym (ne_eqb n 0 some)))
    (cases_eq n 0)

pub returns : goal.returns
returns c i few = c.answers.ensures i few ∙ no-less-one (get_or c.args.text.now i 0)
