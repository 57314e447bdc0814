use Rattle.std.proofs.Common.{◌+◌, ◌-◌, ◌≤◌}
use Rattle.lbk_chunks.specs.Coming.{KeepsCuts, breaks_left}
use Rattle.lbk_chunks.proofs.window.Window.read_past.Given as goal

abbrev pub invariant-loop-self : goal.invariant-loop-self
invariant-loop-self g l = record {
  keeps : KeepsCuts (g.K.KindSource.kinds_of l.table) (g.K.KindSource.pairs_of l.table) l.text l.fn.self l.self;
  before : l.fn.self.home.at ≤ l.at → l.self.newer.before.at ≤ l.at;
}

abbrev pub decreases-loop-self : goal.decreases-loop-self
decreases-loop-self g l = breaks_left l.text l.self.newer.behind.place.breaks + (1 - (1 - l.self.newer.count))
