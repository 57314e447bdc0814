use Rattle.std.proofs.Common.{◌-◌, ◌<◌, ◌≤◌, ℕ, length}
use Rattle.lbk_rules.specs.declared.Cell.{Cell}
use Rattle.lbk_rules.specs.FlatTable.{IsFlatBy}
use Rattle.lbk_rules.specs.Rows.{IsPlace}
use Rattle.lbk_c.proofs.SafeLemmas.{Goes}
use Rattle.lbk_c.proofs.safe_breaks.last_break.Given as goal

abbrev pub invariant-loop-at : goal.invariant-loop-at
invariant-loop-at g l = record {
  low : l.cut ≤ l.last;
  order : l.last ≤ l.at;
  within : l.at ≤ length l.text;
  before : l.cut < length l.text → l.last < length l.text;
  place : IsPlace l.row;
  goes : (cell : ℕ → Cell) → IsFlatBy (g.K.KindSource.kinds_of l.table) (g.K.KindSource.pairs_of l.table) cell → Goes l.rules cell l.text l.cut l.last l.row l.at;
}

abbrev pub decreases-loop-at : goal.decreases-loop-at
decreases-loop-at g l = length l.text - l.at
