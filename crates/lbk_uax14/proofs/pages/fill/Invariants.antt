use Rattle.std.proofs.Common.{◌≡◌, ℕ, ◌+◌, ◌<◌, ◌≤◌, length, get_or, take}
use Rattle.std.specs.List.{fold}
use Rattle.lbk_uax14.specs.Pages.{cell_number, digest_with, no_cells}
use Rattle.lbk_uax14.specs.Units.{letter}
use Rattle.lbk_uax14.proofs.pages.fill.Given as goal

abbrev pub invariant-loop-k : goal.invariant-loop-k
invariant-loop-k g l = record {
  whole : length l.page ≡ 256;
  cells : g.W.CellWalk.cell_at l.walk ≡ g.W.CellWalk.cell_at l.fn.walk;
  filled : (i : ℕ) → i < l.k → get_or l.page i letter ≡ g.W.CellWalk.cell_at l.fn.walk (l.first + i);
  begins : (g.W.CellWalk.at l.walk).first ≤ l.first + l.k;
  before : (g.W.CellWalk.at l.walk).first < l.first + 256;
  reaches : l.first + l.k ≤ (g.W.CellWalk.at l.walk).last + 1;
  number : l.number ≡ cell_number (g.W.CellWalk.at l.walk).cell;
  digest : l.digest ≡ fold digest_with no_cells (take l.k l.page);
}
