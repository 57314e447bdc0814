use Rattle.std.proofs.Common.{◌≤◌, ◌+◌, Ok, length}
use Rattle.lbk_feed.specs.Block.{items}
use Rattle.lbk_feed.specs.Intake.{IsDue, Refills}
use Rattle.lbk_feed.proofs.intake.Intake.refill.Given as goal

abbrev pub invariant-loop : goal.invariant-loop
invariant-loop g l = record {
  due : IsDue l.self;
  refills : Refills g.R.Source l.initial.self l.self l.initial.reader l.reader (Ok (tt {0}));
  reads : (g.R.Source.reads_made l.reader).count ≤ (g.R.Source.reads_made l.initial.reader).count + l.counter;
  each_gave : l.counter ≤ length (items l.self.block);
}
