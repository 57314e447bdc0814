use Rattle.std.proofs.Common.{◌++◌, sym, ap, ◌∙◌}
use Rattle.lbk_bytes.specs.Bytes.{end_in}
use Rattle.lbk_bytes.specs.Shown.{given_in}
use Rattle.lbk_bytes.proofs.ends.put_end.Goals as goal

pub returns-then-goes_on-clause-front : goal.returns-then-goes_on-clause-front
returns-then-goes_on-clause-front c = λ profile cell taken known some.
    let front = given_in c.args.out.now c.args.count in
    c.put.ensures.front
    ∙ ap (λ l. front ++ l) (c.end_shown.ensures.ends profile cell taken c.args.at known some)
    ∙ ap (λ b. front ++ end_in b profile cell taken c.args.at) (sym c.if-goes_on.true)

pub returns-clause-front : goal.returns-clause-front
returns-clause-front c = λ profile cell taken known some.
    c.put_last.ensures.front profile cell taken known some
    ∙ ap (λ b. given_in c.args.out.now c.args.count ++ end_in b profile cell taken c.args.at) (sym c.if-goes_on.false)
