use Rattle.std.proofs.Common.{◌≡◌, ℕ, ◌≤◌, ◌++◌, length, drop}
use Rattle.lbk_wrap.specs.Filled.{filled}
use Rattle.lbk_wrap.specs.Orders.{AreInARow}
use Rattle.lbk_wrap.proofs.filling.push_lines.Given as goal

abbrev pub invariant-loop-line : goal.invariant-loop-line
invariant-loop-line l = record {
  all : l.out.items ++ filled l.text l.keep (drop l.line-index l.lines) ≡ l.fn.out.items ++ filled l.text l.keep l.lines;
  longer : length l.fn.out.items ≤ length l.out.items;
  row : (at end : ℕ) × (end ≤ length l.text) × AreInARow at end (drop l.line-index l.lines);
}
