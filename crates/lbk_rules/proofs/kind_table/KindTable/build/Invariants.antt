use Rattle.std.proofs.Common.{◌≡◌, ◌-◌, length}
use Rattle.lbk_rules.proofs.kind_table.KindTable.build.Given as goal

abbrev pub invariant-loop-walk : goal.invariant-loop-walk
invariant-loop-walk g l = l.walk.source.now ≡ l.source

abbrev pub decreases-loop-walk : goal.decreases-loop-walk
decreases-loop-walk g l = 1114112 - length l.walk.kinds.kinds.items
