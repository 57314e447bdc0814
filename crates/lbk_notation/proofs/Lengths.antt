-- How long a written line is, and what it says with a comment behind it.
use Rattle.std.proofs.Common.{◌≡◌, ◌≢◌, ℕ, ◌+◌, ◌*◌, ◌<◌, ◌≤◌, true, ltb, List, [], ◌∷◌, ◌++◌, length, map, Option, Some, Result, Ok, Err, IfOk, IfErr, refl, ap, sym, subst, ◌∙◌, arith, lit≤, ◌⊎◌, inl, inr, length-append}
use Rattle.std.specs.Char.{len_utf8}
use Rattle.std.specs.List.{AllByRecursion, list_all}
use Rattle.std.specs.Str.{encode_utf8_all}
use Rattle.std.specs.Char.{encode_utf8}
use Rattle.std.proofs.lemmas.Bool.{and_parts, cond_both, cases_lt, ltb-true, ltb-false}
use Rattle.std.proofs.lemmas.Bool.Decides.{nat_tests}
use Rattle.std.proofs.lemmas.List.{length-map}
use Rattle.std.proofs.lemmas.Str.{length-encode, len_utf8_bounds}
use Rattle.lbk_notation.specs.declared.faults.LineFault.{LineFault}
use Rattle.lbk_notation.specs.declared.faults.LineFault.TheVariants.{LineTooLong, Bad, Memory}
use Rattle.lbk_notation.specs.declared.marks.Form.{Form}
use Rattle.lbk_notation.specs.declared.marks.Form.TheVariants.{Kinds}
use Rattle.lbk_notation.specs.declared.marks.Mark.{Mark}
use Rattle.lbk_notation.specs.declared.marks.Mark.TheVariants.{No, May, Must}
use Rattle.lbk_notation.specs.Fault.{IsFault, longest}
use Rattle.lbk_notation.specs.Grammar.{digit_byte, mark_bytes, token_bytes, IsAfter, last, IsLine}
use Rattle.lbk_notation.specs.TestLine.{Line}
use Rattle.lbk_notation.specs.Marked.{mark_of}
use Rattle.lbk_notation.specs.Shown.{written_labels, passage_line, passage_marks}
use Rattle.lbk_notation.specs.Written.{shown, shown_line, digits_of, token, written_after, written_line, written_marks}
use Rattle.lbk_notation.proofs.Writes.{AllScalars, written-IsLine}
use Rattle.lbk_rules.specs.declared.Rule.{Rule}
use Rattle.lbk_rules.specs.declared.Rule.TheVariants.{Lb2}
use Rattle.lbk_rules.specs.declared.Verdict.{Verdict}
use Rattle.lbk_rules.specs.Labels.{label_of}

-- four digits below 10000, and never more than six
record Counted (scalar : ℕ) (digits : List ℕ) : Type 0 where
  four : 4 ≤ length digits
  low : scalar < 0x10000 → length digits ≡ 4
  six : length digits ≤ 6

counted : (scalar : ℕ) → Counted scalar (digits_of scalar)
counted scalar =
    cond_both (ltb scalar 0x10000) _ _ (Counted scalar) (λ e. record { four = lit≤ tt; low = λ l. refl; six = lit≤ tt })
    (λ e. cond_both (ltb scalar 0x100000) _ _ (Counted scalar)
    (λ f. record { four = lit≤ tt; low = λ l. absurd (omega (arith, ltb-false scalar 0x10000 e)); six = lit≤ tt })
    (λ f. record { four = lit≤ tt; low = λ l. absurd (omega (arith, ltb-false scalar 0x10000 e)); six = lit≤ tt }))

length-token_bytes : (digits : List ℕ) → length (token_bytes digits) ≡ length digits
length-token_bytes digits = length-map digits digit_byte

pub token-four : (scalar : ℕ) → 4 ≤ length (token scalar)
token-four scalar = let c = counted scalar in omega (arith, length-token_bytes (digits_of scalar), c.four)

pub token-six : (scalar : ℕ) → length (token scalar) ≤ 6
token-six scalar = let c = counted scalar in omega (arith, length-token_bytes (digits_of scalar), c.six)

token-low : (scalar : ℕ) → scalar < 0x10000 → length (token scalar) ≡ 4
token-low scalar low = let c = counted scalar in length-token_bytes (digits_of scalar) ∙ c.low low

high_len : (scalar : ℕ) → 0x10000 ≤ scalar → len_utf8 scalar ≡ 4
high_len scalar high = grind (arith, nat_tests)

-- a token and what stands around it, in bytes of the scalar
token-short : (scalar : ℕ) → length (token scalar) + 8 ≤ 12 * length (encode_utf8 scalar)
token-short scalar = go (cases_lt scalar 0x10000)
  where
    go : (scalar < 0x10000) ⊎ (0x10000 ≤ scalar) → length (token scalar) + 8 ≤ 12 * length (encode_utf8 scalar)
    go (inl low) =
        let bounds = len_utf8_bounds scalar in
        omega (arith, token-low scalar low, length-encode scalar, bounds.0)
    go (inr high) = omega (arith, token-six scalar, length-encode scalar, high_len scalar high)

mark-short : (mark : Mark) → length (mark_bytes mark) ≤ 2
mark-short No = lit≤ tt
mark-short May = lit≤ tt
mark-short Must = lit≤ tt

label-short : (rule : Rule) → length (label_of rule) ≤ 3
label-short Lb2 = lit≤ tt
label-short _ = lit≤ tt

-- a mark with what stands behind it, and its rule's number with those behind it
marks_short : (scalars : List ℕ) (verdict : Verdict) (verdicts : List Verdict)
    → length (written_after Kinds scalars (map (λ (v : Verdict). mark_of v.kind) verdicts)) + length (written_labels verdicts)
    ≤ 12 * length (encode_utf8_all scalars)
    → length (written_marks Kinds scalars (map (λ (v : Verdict). mark_of v.kind) (verdict ∷ verdicts))) + length (written_labels (verdict ∷ verdicts))
    ≤ 12 * length (encode_utf8_all scalars) + 6
marks_short scalars verdict verdicts rest =
    let mark = shown Kinds (mark_of verdict.kind) in
    let behind = written_after Kinds scalars (map (λ (v : Verdict). mark_of v.kind) verdicts) in
    omega (
      arith,
      mark-short mark,
      label-short verdict.rule,
      length-append (mark_bytes mark) behind,
      length-append (label_of verdict.rule) (written_labels verdicts),
    )

-- behind the first mark
short_after : (scalars : List ℕ) (verdicts : List Verdict) → length verdicts ≡ length scalars
    → length (written_after Kinds scalars (map (λ (v : Verdict). mark_of v.kind) verdicts)) + length (written_labels verdicts)
    ≤ 12 * length (encode_utf8_all scalars)
short_after [] [] e = omega arith
short_after [] (verdict ∷ verdicts) e = absurd (omega arith)
short_after (scalar ∷ scalars) [] e = absurd (omega arith)
short_after (scalar ∷ scalars) (verdict ∷ verdicts) e =
    let marks = written_marks Kinds scalars (map (λ (v : Verdict). mark_of v.kind) (verdict ∷ verdicts)) in
    omega (
      arith,
      marks_short scalars verdict verdicts (short_after scalars verdicts (omega arith)),
      token-short scalar,
      length-append (token scalar) (32 ∷ marks),
      length-append (encode_utf8 scalar) (encode_utf8_all scalars),
    )

pub short : (scalars : List ℕ) (verdicts : List Verdict) → length verdicts ≡ length scalars + 1
    → length (passage_line scalars verdicts) ≤ 12 * length (encode_utf8_all scalars) + 8
short scalars [] e = absurd (omega arith)
short scalars (verdict ∷ verdicts) e =
    let marks = written_marks Kinds scalars (map (λ (v : Verdict). mark_of v.kind) (verdict ∷ verdicts)) in
    omega (
      arith,
      marks_short scalars verdict verdicts (short_after scalars verdicts (omega arith)),
      length-append marks (9 ∷ 35 ∷ written_labels (verdict ∷ verdicts)),
    )

-- a tab and a comment behind a written line
comment_end : (form : Form) (comment : List ℕ) → AllByRecursion (λ byte. byte ≢ 10) comment → IsAfter form [] [] (9 ∷ 35 ∷ comment)
comment_end form comment none = last (9 ∷ []) (35 ∷ comment) refl (inr (refl, none))

pub commented : (form : Form) (said : Line) (comment : List ℕ) → length said.marks ≡ length said.scalars + 1 → AllScalars said.scalars
    → AllByRecursion (λ byte. byte ≢ 10) comment → IsLine form (written_line form said ++ (9 ∷ 35 ∷ comment)) (Some (shown_line form said))
commented form said comment many all none = written-IsLine form said.scalars said.marks (9 ∷ 35 ∷ comment) many all (comment_end form comment none)

-- form Kinds shows each mark as it is
same_mark : (mark : Mark) → shown Kinds mark ≡ mark
same_mark No = refl
same_mark May = refl
same_mark Must = refl

same_marks : (marks : List Mark) → map (shown Kinds) marks ≡ marks
same_marks [] = refl
same_marks (mark ∷ marks) = ap (λ m. m ∷ map (shown Kinds) marks) (same_mark mark) ∙ ap (λ ms. mark ∷ ms) (same_marks marks)

no_feed : (bytes : List ℕ) → list_all (λ byte. ltb 10 byte) bytes ≡ true → AllByRecursion (λ byte. byte ≢ 10) bytes
no_feed [] all = tt
no_feed (byte ∷ bytes) all =
    let parts = and_parts (ltb 10 byte) (list_all (λ b. ltb 10 b) bytes) all in
    let high : 10 < byte = ltb-true 10 byte parts.0 in
    ((λ e. omega arith), no_feed bytes parts.1)

label_test : (rule : Rule) → list_all (λ byte. ltb 10 byte) (label_of rule) ≡ true
label_test Lb2 = refl
label_test _ = refl

label_no_feed : (rule : Rule) → AllByRecursion (λ byte. byte ≢ 10) (label_of rule)
label_no_feed rule = no_feed (label_of rule) (label_test rule)

joined_no_feed : (xs ys : List ℕ) → AllByRecursion (λ byte. byte ≢ 10) xs → AllByRecursion (λ byte. byte ≢ 10) ys → AllByRecursion (λ byte. byte ≢ 10) (xs ++ ys)
joined_no_feed [] ys none none' = none'
joined_no_feed (x ∷ xs) ys none none' = (none.0, joined_no_feed xs ys none.1 none')

labels_no_feed : (verdicts : List Verdict) → AllByRecursion (λ byte. byte ≢ 10) (written_labels verdicts)
labels_no_feed [] = tt
labels_no_feed (verdict ∷ verdicts) =
    ((λ e. omega (arith, e)), joined_no_feed (label_of verdict.rule) (written_labels verdicts) (label_no_feed verdict.rule) (labels_no_feed verdicts))

-- a passage's line has no line end within it

digit_no_feed : (digit : ℕ) → 10 < digit_byte digit
digit_no_feed digit =
    cond_both (ltb digit 10) (48 + digit) (55 + digit) (λ byte. 10 < byte) (λ e. omega arith) (λ e. omega arith)

token_no_feed : (digits : List ℕ) → AllByRecursion (λ byte. byte ≢ 10) (token_bytes digits)
token_no_feed [] = tt
token_no_feed (digit ∷ digits) = ((λ e. omega (arith, e, digit_no_feed digit)), token_no_feed digits)

mark_no_feed : (mark : Mark) → AllByRecursion (λ byte. byte ≢ 10) (mark_bytes mark)
mark_no_feed No = no_feed (mark_bytes No) refl
mark_no_feed May = no_feed (mark_bytes May) refl
mark_no_feed Must = no_feed (mark_bytes Must) refl

after_no_feed : (scalars : List ℕ) (marks : List Mark) → AllByRecursion (λ byte. byte ≢ 10) (written_after Kinds scalars marks)
after_no_feed [] [] = tt
after_no_feed [] (mark ∷ marks) = tt
after_no_feed (scalar ∷ scalars) [] = tt
after_no_feed (scalar ∷ scalars) (mark ∷ marks) =
    let mark_then = joined_no_feed (mark_bytes (shown Kinds mark)) (written_after Kinds scalars marks)
    (mark_no_feed (shown Kinds mark)) (after_no_feed scalars marks) in (
      (λ e. omega (arith, e)),
      joined_no_feed (token scalar) (32 ∷ (mark_bytes (shown Kinds mark) ++ written_after Kinds scalars marks))
          (token_no_feed (digits_of scalar)) ((λ e. omega (arith, e)), mark_then),
    )

marks_no_feed : (scalars : List ℕ) (marks : List Mark) → AllByRecursion (λ byte. byte ≢ 10) (written_marks Kinds scalars marks)
marks_no_feed scalars [] = tt
marks_no_feed scalars (mark ∷ marks) =
    joined_no_feed (mark_bytes (shown Kinds mark)) (written_after Kinds scalars marks) (mark_no_feed (shown Kinds mark)) (after_no_feed scalars marks)

pub one_line : (scalars : List ℕ) (verdicts : List Verdict) → AllByRecursion (λ byte. byte ≢ 10) (passage_line scalars verdicts)
one_line scalars verdicts =
    let marks : List Mark = map (λ (v : Verdict). mark_of v.kind) verdicts in
    joined_no_feed (written_marks Kinds scalars marks) (9 ∷ 35 ∷ written_labels verdicts) (marks_no_feed scalars marks)
    ((λ e. omega (arith, e)), ((λ e. omega (arith, e)), labels_no_feed verdicts))

pub says : (scalars : List ℕ) (verdicts : List Verdict) → length verdicts ≡ length scalars + 1 → AllScalars scalars
    → IsLine Kinds (passage_line scalars verdicts) (Some (passage_marks scalars verdicts))
says scalars verdicts many all =
    let marks : List Mark = map (λ (v : Verdict). mark_of v.kind) verdicts in
    let is = commented Kinds (passage_marks scalars verdicts) (written_labels verdicts)
    (length-map verdicts (λ (v : Verdict). mark_of v.kind) ∙ many) all (labels_no_feed verdicts) in
    subst (λ ms. IsLine Kinds (passage_line scalars verdicts) (Some (record { scalars = scalars; marks = ms }))) (same_marks marks) is

-- what is answered of bytes that are known to say something
pub answered_same : (form : Form) (bytes : List ℕ) (value : Option Line) (r : Result (Option Line) LineFault) → IsLine form bytes value
    → IfOk r (λ read. (other : Option Line) → IsLine form bytes other → other ≡ read) → IfOk r (λ read. read ≡ value)
answered_same form bytes value (Ok read) is same = sym (same value is)
answered_same form bytes value (Err fault) is same = tt

pub answered_memory : (form : Form) (bytes : List ℕ) (value : Option Line) (r : Result (Option Line) LineFault) → IsLine form bytes value
    → length bytes ≤ longest → IfErr r (λ fault. IsFault form bytes fault) → IfErr r (λ fault. fault ≡ Memory)
answered_memory form bytes value (Ok read) is within fault = tt
answered_memory form bytes value (Err LineTooLong) is within fault = absurd (omega (arith, fault))
answered_memory form bytes value (Err (Bad at)) is within fault = absurd (fault.1 value is)
answered_memory form bytes value (Err Memory) is within fault = refl
