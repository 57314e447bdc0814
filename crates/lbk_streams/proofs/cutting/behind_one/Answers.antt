use Rattle.lbk_streams.proofs.FrontLemmas.{behind-one}
use Rattle.lbk_streams.proofs.cutting.behind_one.Goals as goal

pub returns-clause-units : goal.returns-clause-units
returns-clause-units g c =
    let from = c.args.cut.units in
    behind-one from.first from.second from.third from.fourth c.args.cut.size c.requires.0 c.requires.1
