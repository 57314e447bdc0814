use Rattle.std.proofs.Common.{sym, ◌∙◌}
use Rattle.lbk_rules.proofs.CellTableLemmas.{kinds-at}
use Rattle.lbk_uax14.proofs.PagesLemmas.{scalar_below}
use Rattle.lbk_rules.proofs.cell_table.CellTableKindSource.kind_at.Goals as goal

pub returns-in-Some : goal.returns-in-Some
returns-in-Some g c =
    let table = c.args.self.now in
    let code = c.args.code in
    let found = c.in-Some.ensures.lookup.3 in
    found.1 0
    ∙ table.same code c.requires found.0
    ∙ sym (kinds-at (g.C.CellSource.cell_of table.cells.now) code (scalar_below code c.requires))

pub returns-in-None : goal.returns-in-None
returns-in-None g c =
    let code = c.args.code in
    c.kind_in.ensures c.requires ∙ sym (kinds-at (g.C.CellSource.cell_of c.args.self.now.cells.now) code (scalar_below code c.requires))
