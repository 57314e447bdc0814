use Rattle.std.proofs.Common.{◌≡◌, ◌+◌, ◌*◌, ◌≤◌, drop, take}
use Rattle.std.specs.Str.{IsUtf8, chars}
use Rattle.std.specs.Str.Iter.{chars_rest}
use Rattle.lbk_notation.specs.declared.marks.Form.TheVariants.{Kinds}
use Rattle.lbk_notation.specs.Shown.{marks_of}
use Rattle.lbk_notation.specs.Written.{written_after}
use Rattle.lbk_passage.specs.Placing.{Placed}
use Rattle.lbk_notation.proofs.passages.place_scalars.Given as goal

-- the scalars so far are placed with the marks after them, each in the room for one
abbrev pub invariant-loop-verdict : goal.invariant-loop-verdict
invariant-loop-verdict l = record {
  placed : Placed l.initial.buf l.buf l.at (written_after Kinds (chars (chars_rest l.initial.scalars)) (marks_of (take l.verdict-index l.verdicts))) l.behind;
  short : l.behind ≤ l.at + 16 * l.verdict-index;
  utf8 : IsUtf8 (chars_rest l.scalars);
  rest : chars (chars_rest l.scalars) ≡ drop l.verdict-index (chars (chars_rest l.initial.scalars));
}
