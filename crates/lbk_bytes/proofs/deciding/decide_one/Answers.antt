use Rattle.std.proofs.Common.{◌+◌, ap, ◌∙◌, arith}
use Rattle.lbk_values.specs.declared.profile.Profile.TheVariants.{First}
use Rattle.lbk_rules.specs.Rows.{step_by, steps_in}
use Rattle.lbk_bytes.proofs.PieceLemmas.{rest-of}
use Rattle.lbk_bytes.proofs.UnitLemmas.{front-at, unit-decided}
use Rattle.lbk_bytes.proofs.deciding.decide_one.Goals as goal

pub overflow_add-next : goal.overflow_add-next
overflow_add-next g c =
    let front = front-at g.U.Unit.pieces_of c.args.text.now c.args.at c.front-found.result c.requires.1 c.front-found.ensures in
    omega (arith, front.within)

pub returns-clause-decided : goal.returns-clause-decided
returns-clause-decided g c = λ cell taken flat known.
    let text = c.args.text.now in
    let at = c.args.at in
    let of = g.U.Unit.pieces_of in
    let found = c.front-found.result in
    let front = front-at of text at found c.requires.1 c.front-found.ensures in
    unit-decided of text _ at found c.args.profile cell taken (g.K.KindSource.kinds_of c.args.table.now) c.args.row c.shown_ahead-shown.result c.step_in-step.result
    front flat.kinds c.front-found.type_inv.1.1.0.1 (rest-of text (at + found.size)) (c.step_in-step.ensures.read ∙ ap (step_by (steps_in First) c.args.row) c.kind_at.ensures) (c.shown_ahead-shown.ensures.decides cell taken flat known) known
