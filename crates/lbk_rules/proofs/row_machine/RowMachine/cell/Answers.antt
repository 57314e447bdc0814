use Rattle.std.proofs.Common.{ℕ, ◌<◌, sym, ap, subst, ◌∙◌}
use Rattle.lbk_uax14.specs.declared.cells.Cell.{Cell}
use Rattle.lbk_rules.specs.Kinds.{kind_cell, kind_of}
use Rattle.lbk_rules.proofs.KindsLemmas.{kind-cell, kind-few}
use Rattle.lbk_rules.proofs.row_machine.RowMachine.cell.Goals as goal

pub returns : goal.returns
returns g c = λ profile cell taken fits.
    c.cell_of_kind.ensures
    ∙ ap kind_cell (c.kind.ensures ∙ ap (λ (f : ℕ → Cell). kind_of (f c.args.c)) (sym fits.cell_same))
    ∙ kind-cell (cell c.args.c)

pub cell_of_kind-requires : goal.cell_of_kind-requires
cell_of_kind-requires g c = subst (λ n. n < 84) (sym c.kind.ensures) (kind-few (g.C.CellSource.cell_of c.args.self.now.cells.now c.args.c))
