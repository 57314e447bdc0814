use Rattle.std.proofs.Common.{◌++◌, refl, sym, ap, subst, ◌∙◌, append-nil, arith}
use Rattle.lbk_bytes.specs.Shown.{given_in}
use Rattle.lbk_rules.specs.declared.Kind.TheVariants.{Must}
use Rattle.lbk_rules.specs.declared.Rule.TheVariants.{Lb3}
use Rattle.lbk_rules.specs.FlatTable.{KnowsTaken}
use Rattle.lbk_rules.specs.Rows.{verdict_shown}
use Rattle.lbk_bytes.proofs.EndLemmas.{end-none, end-some, none-known}
use Rattle.lbk_bytes.proofs.ends.put_last.Goals as goal

pub returns-then-row-eq0-clause-front : goal.returns-then-row-eq0-clause-front
unfolding verdict_shown
returns-then-row-eq0-clause-front c = λ profile cell taken known some.
    let first = subst (λ n. KnowsTaken cell n taken) c.if-row-eq0.true known in
    let front = given_in c.args.out.now c.args.count in
    sym (append-nil front) ∙ ap (λ l. front ++ l) (end-none profile cell taken c.args.at (none-known cell taken first))

pub put-requires-clause-shown : goal.put-requires-clause-shown
put-requires-clause-shown c = (record { kind = Must; rule = Lb3 }, refl)

pub returns-clause-front : goal.returns-clause-front
returns-clause-front c = λ profile cell taken known some.
    c.put.ensures.front
    ∙ ap (λ l. given_in c.args.out.now c.args.count ++ l) (end-some profile cell taken c.args.at (some (omega (arith, c.if-row-eq0.false))))
