-- What a replay writes for the lines of a test file, and its report.
use Rattle.std.specs.Prelude.{ℕ, ◌+◌, Bool, true, false, List, [], ◌∷◌, ◌++◌, count_by, codes, decimal}
use Rattle.std.specs.List.{join_with_byte}
use Rattle.lbk_rules.specs.Labels.{label_of}
use Rattle.lbk_notation.specs.declared.findings.Finding.{Finding}
use Rattle.lbk_notation.specs.declared.findings.Finding.TheVariants.{NoLine, Replayed, Bad, Long}
use Rattle.lbk_notation.specs.declared.findings.Outcome.TheVariants.{Agree, Differ}
use Rattle.lbk_notation.specs.declared.findings.Report.{Report}
use Rattle.lbk_notation.specs.declared.marks.Form.{Form}
use Rattle.lbk_notation.specs.Marked.{mark_of}
use Rattle.lbk_notation.specs.Grammar.{mark_bytes}
use Rattle.lbk_notation.specs.Written.{shown}

-- words, separated by one space, and LF
abbrev pub row_text : List (List ℕ) → List ℕ
row_text words = join_with_byte 32 words ++ 10 ∷ []

-- the line written for a line of the file, with its number; none for one that agrees, and for a blank line or a comment
abbrev pub finding_text : Form → ℕ → Finding → List ℕ
finding_text form number NoLine = []
finding_text form number (Replayed Agree) = []
finding_text form number (Replayed (Differ position file rules)) =
    row_text (codes "D" ∷ decimal number ∷ decimal position ∷ mark_bytes (shown form file)
    ∷ mark_bytes (shown form (mark_of rules.kind)) ∷ label_of rules.rule ∷ [])
finding_text form number (Bad at) = row_text (codes "R" ∷ decimal number ∷ decimal at ∷ [])
finding_text form number Long = row_text (codes "R" ∷ decimal number ∷ codes "long" ∷ [])

-- the output lines of all lines; the first line has this number
abbrev pub text_from : Form → ℕ → List Finding → List ℕ
text_from form number [] = []
text_from form number (finding ∷ findings) = finding_text form number finding ++ text_from form (number + 1) findings

abbrev pub has_agreed : Finding → Bool
has_agreed (Replayed Agree) = true
has_agreed _ = false

abbrev pub has_differed : Finding → Bool
has_differed (Replayed (Differ _ _ _)) = true
has_differed _ = false

abbrev pub is_refused : Finding → Bool
is_refused (Bad _) = true
is_refused Long = true
is_refused _ = false

-- how many agreed, differed and were refused, and the sum of these
abbrev pub report_of : List Finding → Report
report_of findings = record {
  lines = count_by has_agreed findings + count_by has_differed findings + count_by is_refused findings;
  agreed = count_by has_agreed findings;
  differed = count_by has_differed findings;
  refused = count_by is_refused findings;
}

-- the last line
abbrev pub total_text : Report → List ℕ
total_text report =
    row_text (codes "T" ∷ decimal report.lines ∷ decimal report.agreed ∷ decimal report.differed
    ∷ decimal report.refused ∷ [])
