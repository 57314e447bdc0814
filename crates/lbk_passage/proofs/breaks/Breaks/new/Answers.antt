use Rattle.std.proofs.Common.{arith}
use Rattle.lbk_passage.proofs.KeptLemmas.{IsKept-start}
use Rattle.lbk_passage.proofs.breaks.Breaks.new.Goals as goal

pub invariant_of-result : goal.invariant_of-result
invariant_of-result g c = IsKept-start c.args.profile (g.C.CellSource.cell_of c.args.cells.now) c.args.text.now _ (omega arith) c.utf8.text
