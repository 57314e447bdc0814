use Rattle.std.proofs.Common.{◌≡◌, ◌++◌, length, take}
use Rattle.std.specs.List.{flat_map}
use Rattle.std.specs.Slice.Iter.{chunks_rest, chunks_size}
use Rattle.lbk_passage.proofs.lines.push_lines.Given as goal

-- the lines of the parts that are left belong behind those so far
abbrev pub invariant-loop-some : goal.invariant-loop-some
invariant-loop-some g l = record {
  lines : l.out.items ++ flat_map (g.T.HasLine.line l.start) (chunks_rest l.some-iterator)
      ≡ l.initial.out.items ++ flat_map (g.T.HasLine.line l.start) l.parts;
  size : chunks_size l.some-iterator ≡ 64;
  kept : take (length l.initial.out.items) l.out.items ≡ l.initial.out.items;
}
