use Rattle.std.proofs.Common.{◌≡◌, ◌++◌, ◌≤◌, length}
use Rattle.std.specs.Slice.Iter.{chunks_rest, chunks_size}
use Rattle.lbk_notation.specs.Shown.{written_labels}
use Rattle.lbk_notation.proofs.passages.push_labels.Given as goal

-- the labels of the verdicts that are left belong behind those so far
abbrev pub invariant-loop-some : goal.invariant-loop-some
invariant-loop-some l = record {
  labels : l.out.items ++ written_labels (chunks_rest l.some-iterator) ≡ l.initial.out.items ++ written_labels l.verdicts;
  size : chunks_size l.some-iterator ≡ 64;
  longer : length l.initial.out.items ≤ length l.out.items;
}
