use Rattle.std.proofs.Common.{◌≡◌, ◌≤◌, ◌++◌, length}
use Rattle.std.specs.Slice.Iter.{chunks_rest, chunks_size}
use Rattle.std.specs.Str.{IsUtf8, chars}
use Rattle.std.specs.Str.Iter.{chars_rest}
use Rattle.lbk_notation.specs.Shown.{marks_of, passage_marks}
use Rattle.lbk_notation.specs.Written.{written_after, written_line}
use Rattle.lbk_notation.specs.declared.marks.Form.TheVariants.{Kinds}
use Rattle.lbk_notation.proofs.passages.push_kinds.Given as goal

-- the scalars and verdicts that are left belong behind what is written so far
abbrev pub invariant-loop-some : goal.invariant-loop-some
invariant-loop-some l = record {
  utf8 : IsUtf8 (chars_rest l.scalars);
  many : length (chars (chars_rest l.scalars)) ≡ length (chunks_rest l.some-iterator);
  joined : l.out.items ++ written_after Kinds (chars (chars_rest l.scalars)) (marks_of (chunks_rest l.some-iterator))
      ≡ l.fn.out.items ++ written_line Kinds (passage_marks (chars l.text) l.verdicts);
  longer : length l.fn.out.items ≤ length l.out.items;
  size : chunks_size l.some-iterator ≡ 64;
}
