use Rattle.std.proofs.Common.{refl, sym, ◌∙◌, arith}
use Rattle.lbk_uax14.specs.declared.verdicts.Kind.TheVariants.{May}
use Rattle.lbk_uax14.specs.declared.verdicts.Rule.TheVariants.{Lb31}
use Rattle.lbk_rules.proofs.ShownLemmas.{shown-kind, shown-made}
use Rattle.lbk_rules.proofs.steps.shown_by.Goals as goal

pub returns-then-number-ge-KINDS_OF_VERDICTS-clause-shown : goal.returns-then-number-ge-KINDS_OF_VERDICTS-clause-shown
returns-then-number-ge-KINDS_OF_VERDICTS-clause-shown c = (record { kind = May; rule = Lb31 }, refl)

pub returns-then-number-ge-KINDS_OF_VERDICTS-clause-same : goal.returns-then-number-ge-KINDS_OF_VERDICTS-clause-same
returns-then-number-ge-KINDS_OF_VERDICTS-clause-same c = λ known. absurd (let few = shown-kind c.args.number known in omega arith)

pub returns-in-Some-clause-shown : goal.returns-in-Some-clause-shown
returns-in-Some-clause-shown c = shown-made c.args.number c.in-Some.field-0 (sym c.in-Some.is ∙ c.numbered.ensures) (omega arith)

pub returns-in-None-clause-shown : goal.returns-in-None-clause-shown
returns-in-None-clause-shown c = (record { kind = May; rule = Lb31 }, refl)
