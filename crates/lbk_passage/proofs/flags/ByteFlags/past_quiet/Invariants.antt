use Rattle.std.proofs.Common.{◌-◌, ◌≤◌}
use Rattle.lbk_passage.specs.Flags.{ArePassed}
use Rattle.lbk_passage.proofs.flags.ByteFlags.past_quiet.Given as goal

abbrev pub invariant-loop-at : goal.invariant-loop-at
invariant-loop-at l = record {
  onward : l.start ≤ l.at;
  within : l.at ≤ l.end;
  passed : ArePassed l.self.is_quiet l.bytes l.start l.at;
}

abbrev pub decreases-loop-at : goal.decreases-loop-at
decreases-loop-at l = l.end - l.at

abbrev pub invariant-loop-at-2 : goal.invariant-loop-at-2
invariant-loop-at-2 l = record {
  onward : l.start ≤ l.at;
  within : l.at ≤ l.end;
  passed : ArePassed l.self.is_quiet l.bytes l.start l.at;
}

abbrev pub decreases-loop-at-2 : goal.decreases-loop-at-2
decreases-loop-at-2 l = l.end - l.at
