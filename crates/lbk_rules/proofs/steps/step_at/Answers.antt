use Rattle.std.proofs.Common.{◌/◌, ◌%◌, [], get_or, ap, ◌∙◌}
use Rattle.lbk_rules.specs.Rows.{no_step}
use Rattle.lbk_rules.proofs.FlatLemmas.{shown-by, step-made}
use Rattle.lbk_rules.proofs.ReadLemmas.{step-read}
use Rattle.lbk_rules.proofs.steps.step_at.Goals as goal

pub returns-clause-read : goal.returns-clause-read
returns-clause-read c =
    let rows = c.args.rows.now in
    let place = c.args.place in
    step-read c.requires.steps.0 rows c.as_flattened-all.result.now place c.from.result c.requires.steps.1 c.as_flattened-all.ensures.value c.requires.place
    ∙ ap (λ k. get_or (get_or rows (place / 128) []) (k % 128) no_step) c.from.ensures

pub returns-clause-begins : goal.returns-clause-begins
returns-clause-begins c =
    (step-made c.requires.steps.0 c.args.rows.now c.args.place c.args.kind _ c.requires.steps.1 c.requires.place (returns-clause-read c)).begins

pub returns-clause-shows : goal.returns-clause-shows
returns-clause-shows c =
    shown-by c.requires.steps.0 c.args.place (c.args.kind % 128 % 84) _
    (step-made c.requires.steps.0 c.args.rows.now c.args.place c.args.kind _ c.requires.steps.1 c.requires.place (returns-clause-read c))
