use Rattle.std.proofs.Common.{sym, ◌∙◌, arith}
use Rattle.lbk_rules.specs.CellTable.{cell_in}
use Rattle.lbk_rules.proofs.CellTableLemmas.{kinds-at}
use Rattle.lbk_rules.proofs.PagesLemmas.{scalar_below}
use Rattle.lbk_passage.proofs.near_kinds.NearKindsKindSource.kind_at.Goals as goal

pub returns-then-place-lt-FOUR_PLANES : goal.returns-then-place-lt-FOUR_PLANES
returns-then-place-lt-FOUR_PLANES g c =
    let near = c.args.self.now in
    let code = c.args.code in
    near.same code c.requires (omega (arith, near.near, c.if-place-lt-FOUR_PLANES.true))
    ∙ sym (kinds-at (cell_in g.C.CellSource.cell_of near.table) code (scalar_below code c.requires))
