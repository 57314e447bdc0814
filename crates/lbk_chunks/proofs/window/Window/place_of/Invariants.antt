use Rattle.std.proofs.Common.{◌≤◌, ℕ, List}
use Rattle.lbk_rules.specs.declared.Cell.{Cell}
use Rattle.lbk_chunks.specs.declared.cut.Cut.{Cut}
use Rattle.lbk_chunks.specs.Coming.{AreCutsPast, AreKept, AreRead, IsMark, IsStanding, breaks_left}
use Rattle.lbk_chunks.proofs.window.Window.place_of.Given as goal

abbrev pub invariant-loop-here : goal.invariant-loop-here
invariant-loop-here g l = (cell : ℕ → Cell) (cuts : List Cut) (words : ℕ) → AreCutsPast 0 cuts → AreKept cell (g.K.KindSource.kinds_of l.table) (g.K.KindSource.pairs_of l.table) l.text cuts l.fn.self
    → l.fn.self.home.at ≤ l.at → IsStanding cuts l.at words → IsMark cell (g.K.KindSource.kinds_of l.table) (g.K.KindSource.pairs_of l.table) l.text cuts l.here × (l.here.at ≤ l.at) × AreRead l.text l.self.words

abbrev pub decreases-loop-here : goal.decreases-loop-here
decreases-loop-here g l = breaks_left l.text l.here.place.breaks
