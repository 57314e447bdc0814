use Rattle.std.proofs.Common.{◌-◌, length}
use Rattle.lbk_bytes.proofs.GatherLemmas.{GatheredSoFar}
use Rattle.lbk_bytes.proofs.one_word.gathered.Given as goal

abbrev pub invariant-loop-here : goal.invariant-loop-here
invariant-loop-here g l = GatheredSoFar (g.K.KindSource.kinds_of l.fn.table) (g.K.KindSource.pairs_of l.fn.table) l.fn.profile l.text l.from l.stop l.fn.start.word l.fn.start.here l.here l.kinds

abbrev pub decreases-loop-here : goal.decreases-loop-here
decreases-loop-here g l = length l.text - l.here.at
