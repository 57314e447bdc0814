use Rattle.std.proofs.Common.{◌∙◌}
use Rattle.lbk_rules.proofs.UnicodeTables.{near-kind}
use Rattle.lbk_rules.proofs.unicode.kind_of_code.Goals as goal

pub returns-in-Some : goal.returns-in-Some
returns-in-Some c =
    let found = c.in-Some.ensures.lookup.3 in
    found.1 0 ∙ near-kind c.args.code found.0
