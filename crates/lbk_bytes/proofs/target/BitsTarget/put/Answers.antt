use Rattle.std.proofs.Common.{arith}
use Rattle.lbk_bytes.proofs.MarkStepLemmas.{Marked-decided}
use Rattle.lbk_bytes.proofs.target.BitsTarget.put.Goals as goal

pub returns-clause-reached : goal.returns-clause-reached
returns-clause-reached c = λ profile cell text all last row found same inside before decided m.
    Marked-decided profile cell text all c.args.self.from last c.args.at row c.args.count c.args.count c.args.shown c.shows_break.result c.args.words.now c.mark.new.words found
    (omega arith) c.requires.room.0 inside before same c.shows_break.ensures c.mark.ensures decided m
