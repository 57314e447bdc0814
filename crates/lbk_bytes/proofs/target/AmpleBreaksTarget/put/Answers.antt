use Rattle.lbk_bytes.proofs.LoopLemmas.{Reached-written}
use Rattle.lbk_bytes.proofs.target.AmpleBreaksTarget.put.Goals as goal

pub returns-clause-reached : goal.returns-clause-reached
returns-clause-reached c = λ profile cell text all last row found same inside before decided reached.
    Reached-written profile cell text all c.args.out.now c.put.new.out c.args.count row c.args.at c.put.result c.args.shown found c.put.ensures.front
    same inside decided reached
