use Rattle.std.proofs.Common.{map, ap, sym, ◌∙◌, ◌∷◌}
use Rattle.lbk_values.specs.declared.profile.Profile.TheVariants.{First, Second}
use Rattle.lbk_rules.specs.Rows.{step_by, steps_in}
use Rattle.lbk_rules.specs.Verdict.{verdict_between_in}
use Rattle.lbk_bytes.specs.Reached.{scalars_of}
use Rattle.lbk_bytes.proofs.StepLemmas.{decides-apart, decides-closed, decides-first, decides-open}
use Rattle.lbk_bytes.proofs.ahead.shown_ahead.Goals as goal

pub returns-in-First-clause-decides : goal.returns-in-First-clause-decides
returns-in-First-clause-decides g c = λ cell taken flat known.
    let right = map cell (scalars_of (g.U.Unit.pieces_of c.args.rest.now)) in
    decides-first (g.K.KindSource.kinds_of c.args.table.now) cell taken c.args.row c.args.c c.step_in.result right flat.kinds known c.ranges.c.0 (c.step_in.ensures.read ∙ ap (step_by (steps_in First) c.args.row) c.kind_at-kind.ensures)
    ∙ ap (λ p. verdict_between_in p (map cell taken) (cell c.args.c ∷ right)) (sym c.in-First.is)

pub returns-then-second-ne-HELD-clause-decides : goal.returns-then-second-ne-HELD-clause-decides
returns-then-second-ne-HELD-clause-decides g c = λ cell taken flat known.
    let right = map cell (scalars_of (g.U.Unit.pieces_of c.args.rest.now)) in
    decides-apart (g.K.KindSource.kinds_of c.args.table.now) cell taken c.args.row c.args.c c.step_in-second.result right
    flat.kinds known c.ranges.c.0 (c.step_in-second.ensures.read ∙ ap (step_by (steps_in Second) c.args.row) c.kind_at-kind.ensures) c.if-second-ne-HELD.true
    ∙ ap (λ p. verdict_between_in p (map cell taken) (cell c.args.c ∷ right)) (sym c.in-Second.is)

pub returns-then-closes_ahead-clause-decides : goal.returns-then-closes_ahead-clause-decides
returns-then-closes_ahead-clause-decides g c = λ cell taken flat known.
    let right = map cell (scalars_of (g.U.Unit.pieces_of c.args.rest.now)) in
    decides-closed (g.K.KindSource.kinds_of c.args.table.now) cell taken c.args.row c.args.c c.step_in-second.result right
    flat.kinds known c.ranges.c.0 (c.step_in-second.ensures.read ∙ ap (step_by (steps_in Second) c.args.row) c.kind_at-kind.ensures) (sym (c.closes_ahead.ensures cell flat.kinds) ∙ c.if-closes_ahead.true)
    ∙ ap (λ p. verdict_between_in p (map cell taken) (cell c.args.c ∷ right)) (sym c.in-Second.is)

pub returns-else-closes_ahead-clause-decides : goal.returns-else-closes_ahead-clause-decides
returns-else-closes_ahead-clause-decides g c = λ cell taken flat known.
    let right = map cell (scalars_of (g.U.Unit.pieces_of c.args.rest.now)) in
    decides-open (g.K.KindSource.kinds_of c.args.table.now) cell taken c.args.row c.args.c c.step_in-in-Second.result c.step_in-second.result right
    flat.kinds known c.ranges.c.0 (c.step_in-in-Second.ensures.read ∙ ap (step_by (steps_in First) c.args.row) c.kind_at-kind.ensures) (c.step_in-second.ensures.read ∙ ap (step_by (steps_in Second) c.args.row) c.kind_at-kind.ensures) c.if-second-ne-HELD.false
    (sym (c.closes_ahead.ensures cell flat.kinds) ∙ c.if-closes_ahead.false)
    ∙ ap (λ p. verdict_between_in p (map cell taken) (cell c.args.c ∷ right)) (sym c.in-Second.is)
