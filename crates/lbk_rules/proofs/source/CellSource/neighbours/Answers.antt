use Rattle.lbk_rules.specs.Kinds.{kinds_of_cells}
use Rattle.lbk_rules.specs.Rows.{steps_in}
use Rattle.lbk_rules.proofs.CellTableLemmas.{none-told}
use Rattle.lbk_rules.proofs.source.CellSource.neighbours.Goals as goal

pub returns : goal.returns
returns g c = λ profile. none-told (steps_in profile) (kinds_of_cells (g.Self.CellSource.cell_of c.args.self.now))
