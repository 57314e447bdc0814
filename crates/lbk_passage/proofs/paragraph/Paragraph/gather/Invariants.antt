use Rattle.std.proofs.Common.{◌≡◌, true, ◌-◌, length}
use Rattle.lbk_passage.specs.State.{bytes_in}
use Rattle.lbk_passage.specs.Gathering.{Gathering}
use Rattle.lbk_passage.proofs.paragraph.Paragraph.gather.Given as goal

abbrev pub invariant-loop-self : goal.invariant-loop-self
invariant-loop-self g l = record {
  gathering : Gathering (g.C.CellSource.cell_of l.known.cells.now) l.initial.self l.self l.last
      (g.R.Source.unread l.initial.reader) (g.R.Source.unread l.reader) (g.R.Source.has_ended l.initial.reader) (g.R.Source.has_ended l.reader)
      (g.R.Source.reads_made l.initial.reader) (g.R.Source.reads_made l.reader);
  gathered : l.self.lent ≡ 0;
  failures : g.R.Source.failure_count l.reader ≡ g.R.Source.failure_count l.initial.reader;
  quiet : l.initial.self.feed.is_ended ≡ true → (l.reader ≡ l.initial.reader) × (l.self.feed.is_ended ≡ true);
}

abbrev pub decreases-loop-self : goal.decreases-loop-self
decreases-loop-self g l = l.self.limit - length (bytes_in l.self)
