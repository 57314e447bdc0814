use Rattle.std.proofs.Common.{◌≡◌, ◌-◌, length}
use Rattle.lbk_bytes.proofs.MarkLemmas.{MarksSoFar}
use Rattle.lbk_bytes.proofs.marking.fill_marks.Given as goal

abbrev pub invariant-loop-here : goal.invariant-loop-here
invariant-loop-here g l = record {
  no_room : length l.words ≡ 0 → l.here ≡ l.fn.start;
  marks : MarksSoFar (g.K.KindSource.kinds_of l.fn.table) (g.K.KindSource.pairs_of l.fn.table) l.fn.profile l.text l.stop l.fn.start l.here l.words;
}

abbrev pub decreases-loop-here : goal.decreases-loop-here
decreases-loop-here g l = length l.text - l.here.at
