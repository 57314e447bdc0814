use Rattle.std.proofs.Common.{ap, ◌∙◌}
use Rattle.lbk_rules.specs.Rows.{step_by}
use Rattle.lbk_rules.proofs.steps.step_in.Goals as goal

pub step_at-requires-clause-steps : goal.step_at-requires-clause-steps
step_at-requires-clause-steps c = (c.args.profile, c.rows_of.ensures)

pub returns-clause-read : goal.returns-clause-read
returns-clause-read c = c.step_at.ensures.read ∙ ap (λ rows. step_by rows c.args.place c.args.kind) c.rows_of.ensures
