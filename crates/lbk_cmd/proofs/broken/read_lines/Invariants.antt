use Rattle.std.proofs.Common.{length}
use Rattle.lbk_cmd.proofs.ReadingBack.{ReadsOn}
use Rattle.lbk_cmd.proofs.broken.read_lines.Given as goal

abbrev pub invariant-loop-line : goal.invariant-loop-line
invariant-loop-line l = ReadsOn l.fn.text l.rest l.lines.items

abbrev pub decreases-loop-line : goal.decreases-loop-line
decreases-loop-line l = length l.rest
