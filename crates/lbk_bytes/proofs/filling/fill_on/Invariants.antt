use Rattle.std.proofs.Common.{◌≡◌, ◌+◌, ◌-◌, ℕ, length}
use Rattle.lbk_rules.specs.declared.Cell.{Cell}
use Rattle.lbk_rules.specs.FlatTable.{IsFlatBy}
use Rattle.lbk_bytes.specs.Reached.{Ahead, IsInOrder, Reached}
use Rattle.lbk_bytes.specs.Shown.{given_in}
use Rattle.lbk_bytes.specs.Steps.{IsInText}
use Rattle.lbk_bytes.proofs.filling.fill_on.Given as goal

abbrev pub invariant-loop-here : goal.invariant-loop-here
invariant-loop-here g l = record {
  within : IsInText l.here (length l.text) (length l.out);
  no_room : length l.out ≡ 0 → l.here ≡ l.fn.start;
  in_order : (from : ℕ) → IsInOrder l.fn.out l.fn.start.count from l.fn.start.at → IsInOrder l.out l.here.count from l.here.at;
  reached : (cell : ℕ → Cell) (all : Ahead) → IsFlatBy (g.K.KindSource.kinds_of l.fn.table) (g.K.KindSource.pairs_of l.fn.table) cell
      → Reached l.fn.profile cell l.text all l.fn.start (given_in l.fn.out l.fn.start.count)
      → Reached l.fn.profile cell l.text all l.here (given_in l.out l.here.count);
}

abbrev pub decreases-loop-here : goal.decreases-loop-here
decreases-loop-here g l = length l.text + length l.out - (l.here.at + l.here.count)
