use Rattle.lbk_rules.specs.Kinds.{kinds_of_cells}
use Rattle.lbk_rules.specs.CellPages.{page_cell}
use Rattle.lbk_rules.specs.Rows.{steps_in}
use Rattle.lbk_rules.proofs.CellTableLemmas.{cells-told, none-told}
use Rattle.lbk_rules.proofs.pages.CellPagesCellSource.neighbours.Goals as goal

pub returns-in-Some : goal.returns-in-Some
unfolding page_cell
returns-in-Some c = cells-told (page_cell c.args.self.now) c.in-Some.found (c.args.self.now.told c.in-Some.found c.in-Some.is)

pub returns-in-None : goal.returns-in-None
returns-in-None c = λ profile. none-told (steps_in profile) (kinds_of_cells (page_cell c.args.self.now))
