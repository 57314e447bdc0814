use Rattle.std.proofs.Common.{◌≡◌, true}
use Rattle.lbk_rules.specs.Neighbours.{are_letters}
use Rattle.lbk_rules.proofs.neighbours.are_letters.Given as goal

abbrev pub invariant-loop-more : goal.invariant-loop-more
invariant-loop-more g l = are_letters (g.K.KindSource.kinds_of l.kinds) l.from l.more ≡ true
