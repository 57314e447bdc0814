-- What one byte, one line and the end do to how far a replay has come.
use Rattle.std.proofs.Common.{◌≡◌, ◌≢◌, ℕ, ◌+◌, ◌<◌, ◌⊎◌, Bool, true, false, cond, List, [], ◌∷◌, ◌++◌, length, refl, sym, ap, subst, ◌∙◌, inl, inr, arith, count_by, append_assoc, append-nil, add-zero, length-append}
use Rattle.std.proofs.lemmas.Bool.{cases_Bool, false≢true}
use Rattle.std.proofs.lemmas.List.Sums.{fold-append}
use Rattle.lbk_rules.specs.declared.Cell.{Cell}
use Rattle.lbk_values.specs.declared.profile.Profile.{Profile}
use Rattle.lbk_notation.specs.declared.findings.Finding.{Finding}
use Rattle.lbk_notation.specs.declared.findings.Finding.TheVariants.{NoLine, Replayed, Bad, Long}
use Rattle.lbk_notation.specs.declared.findings.Outcome.TheVariants.{Agree, Differ}
use Rattle.lbk_notation.specs.declared.findings.Report.{Report}
use Rattle.lbk_notation.specs.declared.marks.Form.{Form}
use Rattle.lbk_notation.specs.declared.replay_state.ReplayState.{ReplayState}
use Rattle.lbk_notation.specs.Counted.{counted}
use Rattle.lbk_notation.specs.Fault.{longest}
use Rattle.lbk_notation.specs.Findings.{AreFindings, IsFinding}
use Rattle.lbk_notation.specs.ReplayState.{Holds, Settles, Stands, StandsAtEnd}
use Rattle.lbk_notation.specs.ReplayText.{finding_text, has_agreed, has_differed, is_refused, report_of, text_from}
use Rattle.lbk_notation.specs.Stream.{byte_order_mark, cut_of, ended_lines, last_line}
use Rattle.lbk_notation.proofs.StreamLemmas.{cut-end, is_mark, lines-add, mark_completed, mark_held, rest-add, rest-mark, is_mark-mark}

-- a byte that ends no line, once it is known what is held then
pub Stands-add : (cell : ℕ → Cell) (form : Form) (profile : Profile) (old new : ReplayState) (used out : List ℕ) (byte : ℕ) → byte ≢ 10
    → new.taken ≡ old.taken + 1 → new.number ≡ old.number → new.report ≡ old.report
    → Holds (cut_of (used ++ byte ∷ [])).rest new.line.items new.is_long
    → Stands cell form profile old used out → Stands cell form profile new (used ++ byte ∷ []) out
Stands-add cell form profile old new used out byte other taken number report held stands = record {
  taken = omega (arith, length-append used (byte ∷ []), stands.taken);
  held = held;
  findings = stands.findings;
  are = subst (λ (lines : List (List ℕ)). AreFindings cell form profile lines stands.findings) (sym (lines-add used byte other)) stands.are;
  number = number ∙ stands.number;
  counts = report ∙ stands.counts;
  text = stands.text;
}

-- a line that is long stays so
pub Holds-long : (used line : List ℕ) (byte : ℕ) → byte ≢ 10 → longest < length (cut_of used).rest → Holds (cut_of (used ++ byte ∷ [])).rest line true
Holds-long used line byte other long =
    elim (cases_Bool (is_mark (used ++ byte ∷ []))) [
      | inl marked ↦
          (let short : length (cut_of used).rest ≡ 2 = ap (λ cut. length cut.rest) (mark_completed used byte marked).1 in
          absurd (omega (arith, short, long)))
      | inr unmarked ↦ rw (rest-add used byte other unmarked, length-append) (omega (arith, long))
    ]

-- a line that has as many bytes as a line may have gets one more
pub Holds-passed : (used line line' : List ℕ) (byte : ℕ) → byte ≢ 10 → line ≡ (cut_of used).rest → length line ≡ longest
    → Holds (cut_of (used ++ byte ∷ [])).rest line' true
Holds-passed used line line' byte other held full =
    let size : length (cut_of used).rest ≡ longest = ap length (sym held) ∙ full in
    elim (cases_Bool (is_mark (used ++ byte ∷ []))) [
      | inl marked ↦
          (let short : length (cut_of used).rest ≡ 2 = ap (λ cut. length cut.rest) (mark_completed used byte marked).1 in
          absurd (omega (arith, short, size)))
      | inr unmarked ↦ rw (rest-add used byte other unmarked, length-append) (omega (arith, size))
    ]

-- the byte order mark was held, and is no part of a line
pub Holds-mark : (used line : List ℕ) (byte : ℕ) → byte ≢ 10 → line ≡ (cut_of used).rest → length used + 1 ≡ 3 → line ++ byte ∷ [] ≡ byte_order_mark
    → Holds (cut_of (used ++ byte ∷ [])).rest [] false
Holds-mark used line byte other held count mark =
    let whole : used ++ byte ∷ [] ≡ byte_order_mark = mark_held used byte count (ap (λ l. l ++ byte ∷ []) (sym held) ∙ mark) in
    let empty = rest-mark used byte other (is_mark-mark _ whole) in
    (sym empty, rw empty (omega arith))

-- another byte is held
pub Holds-more : (used line : List ℕ) (byte : ℕ) → byte ≢ 10 → line ≡ (cut_of used).rest → length line < longest
    → (length used + 1 ≡ 3 → line ++ byte ∷ [] ≡ byte_order_mark → ⊥)
    → Holds (cut_of (used ++ byte ∷ [])).rest (line ++ byte ∷ []) false
Holds-more used line byte other held room apart =
    let size : length (cut_of used).rest < longest = rw (← held) room in
    elim (cases_Bool (is_mark (used ++ byte ∷ []))) [
      | inl marked ↦
          (let done = mark_completed used byte marked in
          let mark : line ++ byte ∷ [] ≡ byte_order_mark = ap (λ l. l ++ byte ∷ []) (held ∙ ap (λ cut. cut.rest) done.1) ∙ ap (λ b. 0xEF ∷ 0xBB ∷ b ∷ []) done.2 in
          absurd (apart (omega (arith, done.0)) mark))
      | inr unmarked ↦ (ap (λ l. l ++ byte ∷ []) held ∙ sym (rest-add used byte other unmarked), rw (rest-add used byte other unmarked, length-append) (omega (arith, size)))
    ]

-- a line's finding behind those of the lines before it

pub AreFindings-snoc : (cell : ℕ → Cell) (form : Form) (profile : Profile) (lines : List (List ℕ)) (findings : List Finding) (line : List ℕ) (finding : Finding)
    → AreFindings cell form profile lines findings → IsFinding cell form profile line finding
    → AreFindings cell form profile (lines ++ line ∷ []) (findings ++ finding ∷ [])
AreFindings-snoc cell form profile [] [] line finding are is = (is, tt)
AreFindings-snoc cell form profile [] (f ∷ fs) line finding are is = absurd are
AreFindings-snoc cell form profile (l ∷ ls) [] line finding are is = absurd are
AreFindings-snoc cell form profile (l ∷ ls) (f ∷ fs) line finding are is = (are.0, AreFindings-snoc cell form profile ls fs line finding are.1 is)

pub text_from-append : (form : Form) (number : ℕ) (findings more : List Finding)
    → text_from form number (findings ++ more) ≡ text_from form number findings ++ text_from form (number + length findings) more
text_from-append form number [] more = ap (λ n. text_from form n more) (sym (add-zero number))
text_from-append form number (f ∷ fs) more =
    ap (λ t. finding_text form number f ++ t) (text_from-append form (number + 1) fs more)
    ∙ sym (append_assoc (finding_text form number f) (text_from form (number + 1) fs) (text_from form (number + 1 + length fs) more))
    ∙ ap (λ n. finding_text form number f ++ text_from form (number + 1) fs ++ text_from form n more) (omega arith)

text_from-snoc : (form : Form) (number : ℕ) (findings : List Finding) (finding : Finding)
    → text_from form number (findings ++ finding ∷ []) ≡ text_from form number findings ++ finding_text form (number + length findings) finding
text_from-snoc form number findings finding =
    text_from-append form number findings (finding ∷ [])
    ∙ ap (λ t. text_from form number findings ++ t) (append-nil (finding_text form (number + length findings) finding))

abbrev report : ℕ → ℕ → ℕ → Report
report agreed differed refused =
    record { lines = agreed + differed + refused; agreed = agreed; differed = differed; refused = refused }

count_by-snoc : (p : Finding → Bool) (findings : List Finding) (finding : Finding)
    → count_by p (findings ++ finding ∷ []) ≡ count_by p findings + cond (p finding) 1 0
count_by-snoc p findings finding = fold-append (λ n f. n + cond (p f) 1 0) 0 findings (finding ∷ [])

lines-same : (a b agreed differed refused : ℕ) → a ≡ b
    → (let left : Report = record { lines = a; agreed = agreed; differed = differed; refused = refused } in left)
    ≡ record { lines = b; agreed = agreed; differed = differed; refused = refused }
lines-same a b agreed differed refused e = ap (λ n. record { lines = n; agreed = agreed; differed = differed; refused = refused }) e

counted-report : (a d r : ℕ) (finding : Finding)
    → counted (report a d r) finding
    ≡ report (a + cond (has_agreed finding) 1 0) (d + cond (has_differed finding) 1 0) (r + cond (is_refused finding) 1 0)
counted-report a d r NoLine = simp add-zero
counted-report a d r (Replayed Agree) = simp add-zero (lines-same _ _ (a + 1) d r (omega arith))
counted-report a d r (Replayed (Differ position file rules)) = simp add-zero (lines-same _ _ a (d + 1) r (omega arith))
counted-report a d r (Bad at) = simp add-zero (lines-same _ _ a d (r + 1) (omega arith))
counted-report a d r Long = simp add-zero (lines-same _ _ a d (r + 1) (omega arith))

pub report_of-snoc : (findings : List Finding) (finding : Finding) → counted (report_of findings) finding ≡ report_of (findings ++ finding ∷ [])
report_of-snoc findings finding =
    counted-report (count_by has_agreed findings) (count_by has_differed findings) (count_by is_refused findings) finding
    ∙ ap (λ n. report n (count_by has_differed findings + cond (has_differed finding) 1 0) (count_by is_refused findings + cond (is_refused finding) 1 0))
    (sym (count_by-snoc has_agreed findings finding))
    ∙ ap (λ n. report (count_by has_agreed (findings ++ finding ∷ [])) n (count_by is_refused findings + cond (is_refused finding) 1 0))
    (sym (count_by-snoc has_differed findings finding))
    ∙ ap (λ n. report (count_by has_agreed (findings ++ finding ∷ [])) (count_by has_differed (findings ++ finding ∷ [])) n)
    (sym (count_by-snoc is_refused findings finding))

-- a line was judged, counted and its text put behind what was written

pub AreFindings-settled : (cell : ℕ → Cell) (form : Form) (profile : Profile) (lines : List (List ℕ)) (rest : List ℕ) (findings : List Finding)
    (old new : ReplayState) → (settles : Settles cell form profile old new) → AreFindings cell form profile lines findings
    → Holds rest old.line.items old.is_long → AreFindings cell form profile (lines ++ rest ∷ []) (findings ++ settles.finding ∷ [])
AreFindings-settled cell form profile lines rest findings old new settles are held =
    AreFindings-snoc cell form profile lines findings rest settles.finding are (settles.found rest held)

text-settled : (form : Form) (findings : List Finding) (finding : Finding) (number : ℕ) (out text : List ℕ) → number ≡ length findings
    → out ≡ text_from form 1 findings → text ≡ finding_text form (number + 1) finding → out ++ text ≡ text_from form 1 (findings ++ finding ∷ [])
text-settled form findings finding number out text count before now =
    ap (λ t. t ++ text) before ∙ ap (λ t. text_from form 1 findings ++ t) now
    ∙ ap (λ n. text_from form 1 findings ++ finding_text form n finding) (let e : number + 1 ≡ 1 + length findings = omega arith in e)
    ∙ sym (text_from-snoc form 1 findings finding)

-- an LF that ends a line; `counts` is the state once it was counted
pub Stands-end : (cell : ℕ → Cell) (form : Form) (profile : Profile) (old counts new : ReplayState) (used out : List ℕ)
    → counts.taken ≡ old.taken + 1 → counts.line ≡ old.line → counts.is_long ≡ old.is_long → counts.number ≡ old.number → counts.report ≡ old.report
    → Settles cell form profile counts new → Stands cell form profile old used out
    → Stands cell form profile new (used ++ 10 ∷ []) (out ++ new.text.items)
Stands-end cell form profile old counts new used out taken line is_long number report settles stands =
    let held : Holds (cut_of used).rest counts.line.items counts.is_long = rw (line, is_long) stands.held in
    let cut = cut-end used in
    let before : counts.number ≡ length stands.findings = number ∙ stands.number in
    let none : (cut_of (used ++ 10 ∷ [])).rest ≡ [] = ap (λ c. c.rest) cut in
    record {
      taken = omega (arith, settles.taken, stands.taken, length-append used (10 ∷ []));
      held = rw (none, settles.line, settles.is_short) (refl, omega arith);
      findings = stands.findings ++ settles.finding ∷ [];
      are = subst (λ (lines : List (List ℕ)). AreFindings cell form profile lines (stands.findings ++ settles.finding ∷ [])) (sym (ap (λ c. c.lines) cut))
          (AreFindings-settled cell form profile (ended_lines used) (cut_of used).rest stands.findings counts new settles stands.are held);
      number = rw length-append (omega (arith, settles.number, before));
      counts = settles.counts ∙ ap (λ r. counted r settles.finding) (report ∙ stands.counts) ∙ report_of-snoc stands.findings settles.finding;
      text = text-settled form stands.findings settles.finding counts.number out new.text.items before stands.text settles.text;
    }

last_line-some : (rest : List ℕ) → 0 < length rest → last_line rest ≡ rest ∷ []
last_line-some [] some = absurd (omega arith)
last_line-some (byte ∷ rest) some = refl

-- the last line of a file, which no LF ended
pub StandsAtEnd-last : (cell : ℕ → Cell) (form : Form) (profile : Profile) (old new : ReplayState) (used out : List ℕ) → 0 < length (cut_of used).rest
    → Settles cell form profile old new → Stands cell form profile old used out → StandsAtEnd cell form profile new used (out ++ new.text.items)
StandsAtEnd-last cell form profile old new used out some settles stands =
    record {
      findings = stands.findings ++ settles.finding ∷ [];
      are = subst (λ (last : List (List ℕ)). AreFindings cell form profile (ended_lines used ++ last) (stands.findings ++ settles.finding ∷ []))
          (sym (last_line-some (cut_of used).rest some))
          (AreFindings-settled cell form profile (ended_lines used) (cut_of used).rest stands.findings old new settles stands.are stands.held);
      counts = settles.counts ∙ ap (λ r. counted r settles.finding) stands.counts ∙ report_of-snoc stands.findings settles.finding;
      text = text-settled form stands.findings settles.finding old.number out new.text.items stands.number stands.text settles.text;
    }

-- a file whose last line an LF ended, or that has none
pub StandsAtEnd-none : (cell : ℕ → Cell) (form : Form) (profile : Profile) (old new : ReplayState) (used out text : List ℕ) → (cut_of used).rest ≡ []
    → new.report ≡ old.report → text ≡ [] → Stands cell form profile old used out → StandsAtEnd cell form profile new used (out ++ text)
StandsAtEnd-none cell form profile old new used out text none report empty stands = record {
  findings = stands.findings;
  are = subst (λ (lines : List (List ℕ)). AreFindings cell form profile lines stands.findings)
      (sym (ap (λ rest. ended_lines used ++ last_line rest) none ∙ append-nil (ended_lines used))) stands.are;
  counts = report ∙ stands.counts;
  text = ap (λ t. out ++ t) empty ∙ append-nil out ∙ stands.text;
}

Holds-some : (rest line : List ℕ) (is_long : Bool) → Holds rest line is_long → (is_long ≡ true) ⊎ (0 < length line) → 0 < length rest
Holds-some rest line true held some = omega (arith, held)
Holds-some rest line false held (inl long) = absurd (false≢true long)
Holds-some rest line false held (inr some) = rw (← held.0) some

-- the last line of a file, once it is known that there is one
pub StandsAtEnd-held : (cell : ℕ → Cell) (form : Form) (profile : Profile) (old new : ReplayState) (used out : List ℕ)
    → (old.is_long ≡ true) ⊎ (0 < length old.line.items) → Settles cell form profile old new → Stands cell form profile old used out
    → StandsAtEnd cell form profile new used (out ++ new.text.items)
StandsAtEnd-held cell form profile old new used out some settles stands =
    StandsAtEnd-last cell form profile old new used out (Holds-some (cut_of used).rest old.line.items old.is_long stands.held some) settles stands
