use Rattle.std.proofs.Common.{◌≡◌, ◌+◌, true, length}
use Rattle.unicode_segmentation.specs.Grapheme.{graphemes}
use Rattle.unicode_segmentation.specs.Iter.{graphemes_left}
use Rattle.lbk_wrap.specs.Columns.{size}
use Rattle.lbk_wrap.specs.Steps.{IsSmall, after_lines, cut_on}
use Rattle.lbk_wrap.proofs.taking.cut.Given as goal

abbrev pub invariant-loop-cluster : goal.invariant-loop-cluster
invariant-loop-cluster l = record {
  all : after_lines l.lines.items (cut_on l.layout l.line (graphemes_left l.cluster-iterator))
      ≡ after_lines l.fn.lines.items (cut_on l.layout l.fn.line (graphemes true l.part));
  small : IsSmall l.line;
  next : l.line.next + size (graphemes_left l.cluster-iterator) ≡ l.fn.line.next + length l.part;
}
