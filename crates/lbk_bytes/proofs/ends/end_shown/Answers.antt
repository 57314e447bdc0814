use Rattle.std.proofs.Common.{refl, sym, ap, subst, ◌∙◌, arith}
use Rattle.lbk_bytes.specs.Bytes.{end_in}
use Rattle.lbk_rules.specs.declared.Kind.TheVariants.{Must, No}
use Rattle.lbk_rules.specs.declared.Rule.TheVariants.{Lb2, Lb3}
use Rattle.lbk_rules.specs.FlatTable.{KnowsTaken}
use Rattle.lbk_bytes.proofs.EndLemmas.{end-none, end-some, none-known, open-must, open-none}
use Rattle.lbk_bytes.proofs.ends.end_shown.Goals as goal

pub returns-then-row-eq0-clause-shown : goal.returns-then-row-eq0-clause-shown
returns-then-row-eq0-clause-shown c = (record { kind = No; rule = Lb2 }, refl)

pub returns-then-row-eq0-clause-ends : goal.returns-then-row-eq0-clause-ends
returns-then-row-eq0-clause-ends c = λ profile cell taken at known some.
    let first = subst (λ n. KnowsTaken cell n taken) c.if-row-eq0.true known in
    end-none profile cell taken at (none-known cell taken first) ∙ ap (λ b. end_in b profile cell taken at) (sym c.if-not-goes_on.true)

pub returns-else-row-eq0-clause-shown : goal.returns-else-row-eq0-clause-shown
returns-else-row-eq0-clause-shown c = (record { kind = Must; rule = Lb3 }, refl)

pub returns-else-row-eq0-clause-ends : goal.returns-else-row-eq0-clause-ends
returns-else-row-eq0-clause-ends c = λ profile cell taken at known some.
    end-some profile cell taken at (some (omega (arith, c.if-row-eq0.false))) ∙ ap (λ b. end_in b profile cell taken at) (sym c.if-not-goes_on.true)

pub returns-then-shown-eq-MUST-clause-ends : goal.returns-then-shown-eq-MUST-clause-ends
returns-then-shown-eq-MUST-clause-ends c = λ profile cell taken at known some.
    open-must profile cell c.args.row taken c.step_in-shown.result at known c.step_in-shown.ensures.read c.if-shown-eq-MUST.true
    ∙ ap (λ b. end_in b profile cell taken at) (sym c.if-not-goes_on.false)

pub returns-clause-shown : goal.returns-clause-shown
returns-clause-shown c = (record { kind = No; rule = Lb2 }, refl)

pub returns-clause-ends : goal.returns-clause-ends
returns-clause-ends c = λ profile cell taken at known some.
    open-none profile cell c.args.row taken c.step_in-shown.result at known c.step_in-shown.ensures.read c.step_in-shown.ensures.shows c.if-shown-eq-MUST.false
    ∙ ap (λ b. end_in b profile cell taken at) (sym c.if-not-goes_on.false)
