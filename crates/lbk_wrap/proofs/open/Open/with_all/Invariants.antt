use Rattle.std.proofs.Common.{◌≡◌, ◌+◌, true, length}
use Rattle.unicode_segmentation.specs.Grapheme.{graphemes}
use Rattle.unicode_segmentation.specs.Iter.{graphemes_left}
use Rattle.lbk_wrap.specs.Columns.{size}
use Rattle.lbk_wrap.specs.Steps.{IsSmall, grown_all}
use Rattle.lbk_wrap.proofs.open.Open.with_all.Given as goal

abbrev pub invariant-loop-cluster : goal.invariant-loop-cluster
invariant-loop-cluster l = record {
  all : grown_all l.tab l.line (graphemes_left l.cluster-iterator) ≡ grown_all l.tab l.fn.self (graphemes true l.part);
  small : IsSmall l.line;
  next : l.line.next + size (graphemes_left l.cluster-iterator) ≡ l.fn.self.next + length l.part;
}
