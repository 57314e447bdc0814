use Rattle.std.proofs.Common.{refl}
use Rattle.lbk_bytes.proofs.UnitLemmas.{bytes-decided}
use Rattle.lbk_bytes.proofs.held.take_one.Goals as goal

pub returns-clause-reached : goal.returns-clause-reached
returns-clause-reached g c = λ cell all last flat before reached.
    c.put-count.ensures.reached c.args.profile cell c.args.text.now all last c.args.here.row c.decide_one-decided.result refl
    c.requires.2 before (λ taken known. bytes-decided c.args.profile cell c.args.text.now taken c.args.here.at c.decide_one-decided.result c.requires.2 (c.decide_one-decided.ensures.decided cell taken flat known)) reached

pub returns-clause-in_order : goal.returns-clause-in_order
returns-clause-in_order g c = λ from order. c.put-count.ensures.in_order from c.decide_one-decided.result.at c.decide_one-decided.ensures.within.1 order
