use Rattle.std.proofs.Common.{◌≡◌, ◌+◌, ◌++◌, drop, length, ℕ, ◌<◌, ◌≤◌, get_or}
use Rattle.std.specs.Char.{IsScalar}
use Rattle.lbk_notation.specs.Written.{written_marks, written_after}
use Rattle.lbk_notation.proofs.writing.push_line.Given as goal

-- what is written so far, and then what stands behind the marks so far, is the whole
abbrev pub invariant-loop-k : goal.invariant-loop-k
invariant-loop-k l = record {
  written : l.text.items ++ written_after l.form (drop l.k l.scalars) (drop (l.k + 1) l.marks)
      ≡ l.fn.text.items ++ written_marks l.form l.scalars l.marks;
  longer : length l.fn.text.items ≤ length l.text.items;
  chars : (k : ℕ) → k < l.k → IsScalar (get_or l.scalars k 0);
}
