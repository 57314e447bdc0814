-- What `show` writes for a passage: a line with its marks and scalars, and the rules that decided.
use Rattle.std.specs.Prelude.{ℕ, List, [], ◌∷◌, ◌++◌, map}
use Rattle.lbk_notation.specs.Shown.{passage_line}
use Rattle.lbk_rules.specs.declared.Kind.TheVariants.{No}
use Rattle.lbk_rules.specs.declared.Rule.TheVariants.{Lb2}
use Rattle.lbk_rules.specs.declared.Verdict.{Verdict}
use Rattle.lbk_passage.specs.Marks.{Marked, scalars_of}

-- there is no break before a passage, by rule 2
abbrev pub at_start : Verdict
at_start = record { kind = No; rule = Lb2 }

-- the verdicts of all positions of a passage; the first one is before its first scalar
abbrev pub verdicts_of : List Marked → List Verdict
verdicts_of ms = at_start ∷ map (λ m. m.after) ms

-- the written line of a passage, followed by a tab, #, the labels and LF
abbrev pub shown_passage : List Marked → List ℕ
shown_passage ms = passage_line (scalars_of ms) (verdicts_of ms) ++ 10 ∷ []
