use Rattle.std.proofs.Common.{length, refl, ap, ◌∙◌, arith}
use Rattle.lbk_rules.specs.Rows.{steps_in}
use Rattle.lbk_bytes.proofs.StepLemmas.{told-as}
use Rattle.lbk_bytes.proofs.filling.common_part.Goals as goal

pub blocks-there-requires-clause-stands : goal.blocks-there-requires-clause-stands
blocks-there-requires-clause-stands g c = (c.requires.stands.0, c.requires.stands.1, omega (arith, c.requires.stands.2), (c.args.profile, c.rows_of-steps.ensures))

pub blocks-there-requires-clause-sure : goal.blocks-there-requires-clause-sure
blocks-there-requires-clause-sure g c = λ is. let sure = c.requires.sure is in (c.rows_of-steps.ensures ∙ ap steps_in sure.0, sure.1)

pub singles-requires-clause-sure : goal.singles-requires-clause-sure
singles-requires-clause-sure g c = λ is. let sure = c.requires.sure is in (c.rows_of-steps.ensures ∙ ap steps_in sure.0, sure.1)

pub singles-requires-clause-steps : goal.singles-requires-clause-steps
singles-requires-clause-steps g c =
    let there = c.blocks-there.ensures in
    (omega (arith, there.within.0), there.within.1, there.within.2, omega arith, (c.args.profile, c.rows_of-steps.ensures))

pub returns-clause-reached : goal.returns-clause-reached
returns-clause-reached g c = λ cell more all flat start.
    let profile = c.args.profile in
    let steps = c.rows_of-steps in
    let there = c.blocks-there in
    let K = g.K.KindSource in
    let told = told-as profile (K.kinds_of c.args.table.now) (K.pairs_of c.args.table.now) (K.pairs_of c.args.table.now) cell steps.result.now flat refl steps.ensures in
    c.singles.ensures.reached profile cell more all (length c.args.text.now) steps.ensures flat.kinds (omega arith) (there.ensures.reached profile cell more all steps.ensures flat.kinds told start)
