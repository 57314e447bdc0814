use Rattle.std.proofs.Common.{◌+◌, ◌-◌, ◌<◌, ◌≤◌, ℕ, length}
use Rattle.lbk_rules.specs.declared.Cell.{Cell}
use Rattle.lbk_rules.specs.FlatTable.{IsFlatBy}
use Rattle.lbk_rules.specs.Rows.{IsPlace}
use Rattle.lbk_bytes.specs.Reached.{Ahead}
use Rattle.lbk_bytes.proofs.held.take_ones.Given as goal

abbrev pub invariant-loop-here : goal.invariant-loop-here
invariant-loop-here g l = let T = g.T.Target in record {
  room : T.fits l.target l.out l.here.count l.here.at l.stop;
  row : IsPlace l.here.row;
  within : l.here.at ≤ length l.text;
  onward : l.fn.start.at < l.here.at;
  more : l.fn.start.count ≤ l.here.count;
  near : l.here.at ≤ l.stop + 3;
  in_order : (from : ℕ) → T.in_order l.target l.fn.out l.fn.start.count from l.fn.start.at → T.in_order l.target l.out l.here.count from l.here.at;
  reached : (cell : ℕ → Cell) (all : Ahead) (last : ℕ) → IsFlatBy (g.K.KindSource.kinds_of l.fn.table) (g.K.KindSource.pairs_of l.fn.table) cell → l.stop ≤ last
      → T.reached l.target l.fn.profile cell l.text all last l.fn.start l.fn.out
      → T.reached l.target l.fn.profile cell l.text all last l.here l.out;
}

abbrev pub decreases-loop-here : goal.decreases-loop-here
decreases-loop-here g l = length l.text - l.here.at
