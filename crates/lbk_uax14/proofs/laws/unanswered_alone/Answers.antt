use Rattle.lbk_uax14.proofs.UnansweredLemmas.{unanswered-alone}
use Rattle.lbk_uax14.proofs.laws.unanswered_alone.Goals as goal

pub returns : goal.returns
returns c = λ profile cells p within held last. unanswered-alone profile cells p
    (record { within = within; held = held; last = last })
