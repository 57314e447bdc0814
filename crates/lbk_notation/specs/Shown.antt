-- The line written for a passage: its marks and scalars, and in the comment the rules that decided.
use Rattle.std.specs.Prelude.{ℕ, List, ◌∷◌, ◌++◌, map}
use Rattle.std.specs.List.{flat_map}
use Rattle.lbk_notation.specs.declared.marks.Form.TheVariants.{Kinds}
use Rattle.lbk_notation.specs.declared.marks.Mark.{Mark}
use Rattle.lbk_notation.specs.TestLine.{Line}
use Rattle.lbk_notation.specs.Marked.{mark_of}
use Rattle.lbk_notation.specs.Written.{written_line}
use Rattle.lbk_rules.specs.declared.Verdict.{Verdict}
use Rattle.lbk_rules.specs.Labels.{label_of}

-- the labels of the rules that decided, each after a space
abbrev pub written_labels : List Verdict → List ℕ
written_labels verdicts = flat_map (λ verdict. 32 ∷ label_of verdict.rule) verdicts

-- the marks of verdicts
abbrev pub marks_of : List Verdict → List Mark
marks_of verdicts = map (λ verdict. mark_of verdict.kind) verdicts

-- the scalars of a passage, and the kinds of its verdicts
abbrev pub passage_marks : List ℕ → List Verdict → Line
passage_marks scalars verdicts = record { scalars = scalars; marks = marks_of verdicts }

-- the written line in form Kinds, a tab, # and the labels
abbrev pub passage_line : List ℕ → List Verdict → List ℕ
passage_line scalars verdicts = written_line Kinds (passage_marks scalars verdicts)
    ++ (9 ∷ 35 ∷ written_labels verdicts)
