use Rattle.lbk_passage.proofs.Taking.{Takes-moves}
use Rattle.lbk_passage.proofs.paragraph.Paragraph.take.Goals as goal

pub returns-clause-takes : goal.returns-clause-takes
returns-clause-takes g c =
    Takes-moves (g.C.CellSource.cell_of c.args.known.now.cells.now) c.args.last c.args.self.now c.move_up.new.self c.reach-reach.result c.requires.gathered c.reach-reach.ensures.lends
    c.reach-reach.ensures.reaches c.move_up.ensures.moves
