use Rattle.lbk_uax14.proofs.UnansweredLemmas.{unanswered-named}
use Rattle.lbk_uax14.proofs.laws.unanswered_position.Goals as goal

pub returns : goal.returns
returns c = λ profile cells p e. let named = unanswered-named profile cells p e in
    (named.within, named.held, named.last)
