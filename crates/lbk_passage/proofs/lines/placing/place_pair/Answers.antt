use Rattle.std.proofs.Common.{subst}
use Rattle.lbk_passage.specs.Placing.{Placed}
use Rattle.lbk_passage.proofs.Pairs.{pairs-at}
use Rattle.lbk_passage.proofs.lines.placing.place_pair.Goals as goal

pub returns : goal.returns
returns c =
    subst (λ t. Placed c.args.buf.now c.place_front.new.buf c.args.at t c.place_front.result) (pairs-at c.args.number c.requires.0) c.place_front.ensures
