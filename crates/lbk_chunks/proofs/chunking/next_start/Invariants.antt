use Rattle.std.proofs.Common.{ℕ, ◌≡◌, ◌-◌, ◌^◌, ◌<◌, ◌≤◌, List}
use Rattle.std.specs.Prelude.{find}
use Rattle.lbk_rules.specs.declared.Cell.{Cell}
use Rattle.lbk_chunks.specs.declared.cut.Cut.{Cut}
use Rattle.lbk_chunks.specs.Chunks.{cuts_past, may_start}
use Rattle.lbk_chunks.specs.Coming.{KeepsCuts, Knows}
use Rattle.lbk_chunks.proofs.chunking.next_start.Given as goal

abbrev pub invariant-loop-found : goal.invariant-loop-found
invariant-loop-found g l = record {
  keeps : KeepsCuts (g.K.KindSource.kinds_of l.table) (g.K.KindSource.pairs_of l.table) l.text l.fn.window l.window;
  onward : l.here.start ≤ l.at;
  find : (cell : ℕ → Cell) (cuts : List Cut) → Knows cell (g.K.KindSource.kinds_of l.table) (g.K.KindSource.pairs_of l.table) l.text cuts l.fn.window l.here → l.here.told < l.end.at
      → find (may_start l.limits l.here l.end l.next) (cuts_past l.here.start cuts)
      ≡ find (may_start l.limits l.here l.end l.next) (cuts_past l.at cuts);
}

abbrev pub decreases-loop-found : goal.decreases-loop-found
decreases-loop-found g l = 2 ^ 64 - l.at
