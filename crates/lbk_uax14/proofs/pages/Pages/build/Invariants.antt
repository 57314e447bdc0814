use Rattle.std.proofs.Common.{◌≡◌, ◌+◌, ◌*◌, ◌≤◌}
use Rattle.lbk_uax14.proofs.PagesLemmas.{IsFilledTo}
use Rattle.lbk_uax14.proofs.pages.Pages.build.Given as goal

abbrev pub invariant-loop-k : goal.invariant-loop-k
invariant-loop-k g l = record {
  cells : g.W.CellWalk.cell_at l.walk ≡ g.W.CellWalk.cell_at l.fn.walk;
  to : IsFilledTo (g.W.CellWalk.cell_at l.fn.walk) l.numbers.items l.kept.pages.items l.k;
  begins : (g.W.CellWalk.at l.walk).first ≤ 256 * l.k;
  reaches : 256 * l.k ≤ (g.W.CellWalk.at l.walk).last + 1;
}
