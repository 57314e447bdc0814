use Rattle.std.proofs.Common.{length}
use Rattle.lbk_ucd.proofs.overlay.+flatten.Given as goal

abbrev pub decreases-flatten : goal.decreases-flatten
decreases-flatten g l = length l.ranges.now.rows.now
