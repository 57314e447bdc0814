-- The first cell on the right, if there is one, is the one that the table looks at.
use Rattle.std.proofs.Common.{◌≡◌, [], reverse, sym, ap, ◌∙◌}
use Rattle.std.proofs.lemmas.List.{nil_from_length}
use Rattle.lbk_uax14.specs.Chain.{from_cells}
use Rattle.lbk_uax14.specs.Facts.{closes_in}
use Rattle.lbk_uax14.specs.Units.{units_after}
use Rattle.lbk_uax14.proofs.ChainLemmas.{verdict_between-chain}
use Rattle.lbk_uax14.proofs.evaluator.verdict_between.Goals as goal

pub returns-in-None : goal.returns-in-None
returns-in-None c =
    let profile = c.args.profile in
    let left = reverse c.args.left.now in
    let none : c.args.right.now ≡ [] = nil_from_length c.args.right.now c.in-None.ensures.cases in
    c.verdict_at_end.ensures profile left (sym c.of-left.ensures)
    ∙ ap (λ r. from_cells profile left r) (sym none)
    ∙ sym (verdict_between-chain profile c.args.left.now c.args.right.now)

pub returns-in-Some : goal.returns-in-Some
returns-in-Some c =
    let profile = c.args.profile in
    let left = reverse c.args.left.now in
    let more = c.in-Some.more.now in
    let closes =
    ap (λ f. closes_in profile (units_after f more)) (sym c.is_hard.ensures) ∙ sym c.closes_in-closes.ensures in
    c.verdict.ensures left more (sym c.of-left.ensures) closes
    ∙ ap (λ r. from_cells profile left r) (sym c.in-Some.ensures.cases.0)
    ∙ sym (verdict_between-chain profile c.args.left.now c.args.right.now)
