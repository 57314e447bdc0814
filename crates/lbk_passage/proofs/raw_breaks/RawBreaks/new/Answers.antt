use Rattle.lbk_passage.proofs.FoundLemmas.{IsFound-start}
use Rattle.lbk_passage.proofs.raw_breaks.RawBreaks.new.Goals as goal

pub invariant_of-result : goal.invariant_of-result
invariant_of-result g c = IsFound-start c.args.profile (g.C.CellSource.cell_of c.args.cells.now) c.args.text.now c.utf8.text
