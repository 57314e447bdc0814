use Rattle.lbk_rules.proofs.ShownLemmas.{verdict-shown}
use Rattle.lbk_rules.proofs.steps.verdict_of.Goals as goal

pub returns : goal.returns
returns c = λ verdict is.
    verdict-shown c.args.shown c.kind_numbered.result c.rule_numbered.result verdict c.kind_numbered.ensures c.rule_numbered.ensures is
