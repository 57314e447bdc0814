use Rattle.std.proofs.Common.{◌<◌, length, min, ◌∙◌, arith}
use Rattle.lbk_masks.proofs.FoundLemmas.{all-edges, inside}
use Rattle.lbk_masks.proofs.ByteSets.masks.Goals as goal

pub returns-clause-standing : goal.returns-clause-standing
returns-clause-standing c i few within =
    let below : i < min 64 (length c.args.text.now) = omega arith in
    c.found-found.ensures.standing i few ∙ inside i _ _ below

pub returns-clause-special : goal.returns-clause-special
returns-clause-special c i few within =
    let below : i < min 64 (length c.args.text.now) = omega arith in
    c.found-found.ensures.special i few ∙ inside i _ _ below

pub returns-clause-strays : goal.returns-clause-strays
returns-clause-strays c = c.strays_by.ensures c.args.text.now (all-edges c.args.text.now c.found-found.result.edges c.found-found.ensures.edges)
