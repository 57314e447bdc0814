use Rattle.std.proofs.Common.{reverse, sym, ap, subst, ◌∙◌}
use Rattle.lbk_uax14.specs.LateFits.{waiting}
use Rattle.lbk_uax14.specs.Normal.{normal}
use Rattle.lbk_rules.specs.RowMachineFits.{normals}
use Rattle.lbk_rules.specs.StepperFits.{Holds}
use Rattle.lbk_uax14.specs.Units.{heads}
use Rattle.lbk_rules.proofs.HoldsLemmas.{Holds-calm, Holds-head, Holds-here, Holds-on, none-held}
use Rattle.lbk_rules.proofs.RowMachineLemmas.{held-chain-normal}
use Rattle.lbk_rules.proofs.stepper.Stepper.holding.Goals as goal

pub returns-then-holds : goal.returns-then-holds
returns-then-holds g c = λ profile cell taken fits held.
    Holds-here profile (reverse (normals cell taken)) (normal (cell c.args.c)) c.held_before.result
    (held-chain-normal profile cell taken c.args.c ∙ held ∙ c.if-holds.true)
    (c.held_before.ensures profile cell taken fits)

pub returns-then-is_none : goal.returns-then-is_none
returns-then-is_none g c = λ profile cell taken fits held.
    let side = reverse (normals cell taken) in
    let none = none-held c.args.self.held c.is_none.result c.is_none.ensures c.if-is_none.true in
    Holds-calm profile side (normal (cell c.args.c))
    (held-chain-normal profile cell taken c.args.c ∙ held ∙ c.if-holds.false)
    (subst (λ h. Holds profile h (waiting profile side)) none fits.held_same)

pub returns-then-heads : goal.returns-then-heads
returns-then-heads g c = λ profile cell taken fits held.
    let side = reverse (normals cell taken) in
    let same = c.cell.ensures profile cell taken fits.machine_fits in
    let known = c.left.ensures profile cell taken fits.machine_fits in
    Holds-head profile side (normal (cell c.args.c))
    (held-chain-normal profile cell taken c.args.c ∙ held ∙ c.if-holds.false)
    (sym (c.heads.ensures side known ∙ ap (λ u. heads side u) same) ∙ c.if-heads.true)

pub returns : goal.returns
returns g c = λ profile cell taken fits held.
    let side = reverse (normals cell taken) in
    let same = c.cell.ensures profile cell taken fits.machine_fits in
    let known = c.left.ensures profile cell taken fits.machine_fits in
    Holds-on profile side (normal (cell c.args.c)) c.args.self.held
    (held-chain-normal profile cell taken c.args.c ∙ held ∙ c.if-holds.false)
    (sym (c.heads.ensures side known ∙ ap (λ u. heads side u) same) ∙ c.if-heads.false)
    fits.held_same
