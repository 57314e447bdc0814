use Rattle.std.proofs.Common.{◌≡◌, ◌++◌, drop}
use Rattle.std.specs.Str.{IsCharBoundary}
use Rattle.lbk_wrap.specs.Lines.{parts_from}
use Rattle.lbk_wrap.specs.Steps.{IsSmall, lines_from, open_at}
use Rattle.lbk_wrap.proofs.wrapping.lines.Given as goal

abbrev pub invariant-loop-segment : goal.invariant-loop-segment
invariant-loop-segment l = record {
  all : l.found.items ++ lines_from l.layout l.line (parts_from l.line.next l.text (drop l.segment-index l.segments))
      ≡ lines_from l.layout (open_at 0) (parts_from 0 l.text l.segments);
  small : IsSmall l.line;
  boundary : IsCharBoundary l.text l.line.next;
}
