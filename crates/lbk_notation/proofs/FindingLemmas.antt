-- A line comes to one thing alone, and what is written of ended lines stays.
use Rattle.std.proofs.Common.{◌≡◌, ℕ, ◌+◌, ◌<◌, ⊎_elim, List, [], ◌∷◌, ◌++◌, length, Some, None, refl, sym, ap, subst, ◌∙◌, arith, append_assoc}
use Rattle.std.proofs.lemmas.Bool.{cases_lt}
use Rattle.lbk_rules.specs.declared.Cell.{Cell}
use Rattle.lbk_values.specs.declared.profile.Profile.{Profile}
use Rattle.lbk_rules.specs.declared.Verdict.{Verdict}
use Rattle.lbk_notation.specs.declared.findings.Finding.{Finding}
use Rattle.lbk_notation.specs.declared.findings.Finding.TheVariants.{NoLine, Replayed, Bad, Long}
use Rattle.lbk_notation.specs.declared.findings.Outcome.{Outcome}
use Rattle.lbk_notation.specs.declared.findings.Outcome.TheVariants.{Agree, Differ}
use Rattle.lbk_notation.specs.declared.findings.Report.{Report}
use Rattle.lbk_notation.specs.declared.marks.Form.{Form}
use Rattle.lbk_notation.specs.declared.marks.Mark.{Mark}
use Rattle.lbk_notation.specs.Findings.{AreFindings, IsFinding}
use Rattle.lbk_notation.specs.TestLine.{Line}
use Rattle.lbk_notation.specs.Outcome.{Agrees, AgreesAt, IsFirstDifference, IsOutcome}
use Rattle.lbk_notation.specs.Place.{IsPlace}
use Rattle.lbk_notation.specs.Replay.{IsEndedText, IsReplayText}
use Rattle.lbk_notation.specs.ReplayText.{report_of, text_from, total_text}
use Rattle.lbk_notation.specs.Stream.{cut_of, last_line}
use Rattle.lbk_notation.proofs.Answered.{only_of}
use Rattle.lbk_notation.proofs.ReplayStateLemmas.{text_from-append}
use Rattle.lbk_notation.proofs.StreamLemmas.{lines-more}

no_lower : (form : Form) (bytes : List ℕ) (place other : ℕ) → IsPlace form bytes place → IsPlace form bytes other → place < other → ⊥
no_lower form bytes place other is is' below = is.here (omega (arith, is'.within)) (is'.before place below)

IsPlace-one : (form : Form) (bytes : List ℕ) (place other : ℕ) → IsPlace form bytes place → IsPlace form bytes other → other ≡ place
IsPlace-one form bytes place other is is' = ⊎_elim
    (λ below. absurd (no_lower form bytes place other is is' below))
    (λ from. ⊎_elim
    (λ above. absurd (no_lower form bytes other place is' is above))
    (λ to. let same : other ≡ place = omega arith in same)
    (cases_lt other place))
    (cases_lt place other)

not_both : (cell : ℕ → Cell) (form : Form) (profile : Profile) (line : Line) (position : ℕ) (file : Mark) (rules : Verdict)
    → IsFirstDifference cell form profile line position file rules → AgreesAt cell form profile line position → ⊥
not_both cell form profile line position file rules is agree =
    let same : Some file ≡ Some agree.0 = sym is.mark ∙ agree.1 in
    let mark : agree.0 ≡ file = cc in
    is.differs (subst (λ (v : Verdict). Agrees form file v.kind) (sym is.verdict)
    (subst (λ (m : Mark). Agrees form m _) mark agree.2))

IsOutcome-one : (cell : ℕ → Cell) (form : Form) (profile : Profile) (line : Line) (outcome other : Outcome)
    → IsOutcome cell form profile line outcome → IsOutcome cell form profile line other → other ≡ outcome
IsOutcome-one cell form profile line Agree Agree is is' = refl
IsOutcome-one cell form profile line Agree (Differ position file rules) is is' =
    absurd (not_both cell form profile line position file rules is' (is position is'.within))
IsOutcome-one cell form profile line (Differ position file rules) Agree is is' =
    absurd (not_both cell form profile line position file rules is (is' position is.within))
IsOutcome-one cell form profile line (Differ position file rules) (Differ position' file' rules') is is' =
    let place : position' ≡ position = ⊎_elim
    (λ below. absurd (not_both cell form profile line position file rules is (is'.least position below)))
    (λ from. ⊎_elim
    (λ above. absurd (not_both cell form profile line position' file' rules' is' (is.least position' above)))
    (λ to. let same : position' ≡ position = omega arith in same)
    (cases_lt position' position))
    (cases_lt position position') in
    let here = subst (λ (p : ℕ). IsFirstDifference cell form profile line p file' rules') place is' in
    let marks : Some file' ≡ Some file = sym here.mark ∙ is.mark in
    let mark : file' ≡ file = cc in
    let verdict : rules' ≡ rules = here.verdict ∙ sym is.verdict in
    ap (λ p. Differ p file' rules') place ∙ ap (λ m. Differ position m rules') mark ∙ ap (λ r. Differ position file r) verdict

pub IsFinding-one : (cell : ℕ → Cell) (form : Form) (profile : Profile) (bytes : List ℕ) (finding other : Finding)
    → IsFinding cell form profile bytes finding → IsFinding cell form profile bytes other → other ≡ finding
IsFinding-one cell form profile bytes NoLine NoLine is is' = refl
IsFinding-one cell form profile bytes NoLine (Replayed o) is is' =
    let same : Some is'.1.0 ≡ None = only_of form bytes None (Some is'.1.0) is.1 is'.1.1 in
    absurd (let none : ⊥ = cc in none)
IsFinding-one cell form profile bytes NoLine (Bad at) is is' = absurd (is'.1 None is.1)
IsFinding-one cell form profile bytes NoLine Long is is' = absurd (omega (arith, is.0, is'))
IsFinding-one cell form profile bytes (Replayed o) NoLine is is' =
    let same : Some is.1.0 ≡ None = only_of form bytes None (Some is.1.0) is'.1 is.1.1 in
    absurd (let none : ⊥ = cc in none)
IsFinding-one cell form profile bytes (Replayed o) (Replayed o') is is' =
    let lines : Some is'.1.0 ≡ Some is.1.0 = only_of form bytes (Some is.1.0) (Some is'.1.0) is.1.1 is'.1.1 in
    let line : is'.1.0 ≡ is.1.0 = cc in
    ap Replayed (IsOutcome-one cell form profile is.1.0 o o' is.1.2 (subst (λ (l : Line). IsOutcome cell form profile l o') line is'.1.2))
IsFinding-one cell form profile bytes (Replayed o) (Bad at) is is' = absurd (is'.1 (Some is.1.0) is.1.1)
IsFinding-one cell form profile bytes (Replayed o) Long is is' = absurd (omega (arith, is.0, is'))
IsFinding-one cell form profile bytes (Bad at) NoLine is is' = absurd (is.1 None is'.1)
IsFinding-one cell form profile bytes (Bad at) (Replayed o) is is' = absurd (is.1 (Some is'.1.0) is'.1.1)
IsFinding-one cell form profile bytes (Bad at) (Bad at') is is' = ap Bad (IsPlace-one form bytes at at' is.2 is'.2)
IsFinding-one cell form profile bytes (Bad at) Long is is' = absurd (omega (arith, is.0, is'))
IsFinding-one cell form profile bytes Long NoLine is is' = absurd (omega (arith, is, is'.0))
IsFinding-one cell form profile bytes Long (Replayed o) is is' = absurd (omega (arith, is, is'.0))
IsFinding-one cell form profile bytes Long (Bad at) is is' = absurd (omega (arith, is, is'.0))
IsFinding-one cell form profile bytes Long Long is is' = refl

-- the findings of more lines begin with those of the first of them
AreFindings-more : (cell : ℕ → Cell) (form : Form) (profile : Profile) (lines later : List (List ℕ)) (findings longer : List Finding)
    → AreFindings cell form profile lines findings → AreFindings cell form profile (lines ++ later) longer
    → (rest : List Finding) × (longer ≡ findings ++ rest)
AreFindings-more cell form profile [] later [] longer are are' = (longer, refl)
AreFindings-more cell form profile [] later (f ∷ fs) longer are are' = absurd are
AreFindings-more cell form profile (l ∷ ls) later [] longer are are' = absurd are
AreFindings-more cell form profile (l ∷ ls) later (f ∷ fs) [] are are' = absurd are'
AreFindings-more cell form profile (l ∷ ls) later (f ∷ fs) (f' ∷ fs') are are' =
    let rest = AreFindings-more cell form profile ls later fs fs' are.1 are'.1 in
    (rest.0, ap (λ g. g ∷ fs') (IsFinding-one cell form profile l f f' are.0 are'.0) ∙ ap (λ gs. f ∷ gs) rest.1)

AreFindings-one : (cell : ℕ → Cell) (form : Form) (profile : Profile) (lines : List (List ℕ)) (findings other : List Finding)
    → AreFindings cell form profile lines findings → AreFindings cell form profile lines other → other ≡ findings
AreFindings-one cell form profile [] [] [] are are' = refl
AreFindings-one cell form profile [] [] (f ∷ fs) are are' = absurd are'
AreFindings-one cell form profile [] (f ∷ fs) other are are' = absurd are
AreFindings-one cell form profile (l ∷ ls) [] other are are' = absurd are
AreFindings-one cell form profile (l ∷ ls) (f ∷ fs) [] are are' = absurd are'
AreFindings-one cell form profile (l ∷ ls) (f ∷ fs) (f' ∷ fs') are are' =
    ap (λ g. g ∷ fs') (IsFinding-one cell form profile l f f' are.0 are'.0)
    ∙ ap (λ gs. f ∷ gs) (AreFindings-one cell form profile ls fs fs' are.1 are'.1)

pub IsReplayText-one : (cell : ℕ → Cell) (form : Form) (profile : Profile) (bytes : List ℕ) (report other : Report) (out another : List ℕ)
    → IsReplayText cell form profile bytes report out → IsReplayText cell form profile bytes other another → (other ≡ report) × (another ≡ out)
IsReplayText-one cell form profile bytes report other out another is is' =
    let same = AreFindings-one cell form profile _ is.findings is'.findings is.are is'.are in
    let counts : other ≡ report = is'.counts ∙ ap report_of same ∙ sym is.counts in
    (counts, is'.text ∙ ap (λ fs. text_from form 1 fs ++ total_text other) same ∙ ap (λ r. text_from form 1 is.findings ++ total_text r) counts ∙ sym is.text)

-- a text of more findings
text-more : (form : Form) (findings longer : List Finding) (rest : List Finding) (out : List ℕ) → out ≡ text_from form 1 findings → longer ≡ findings ++ rest
    → text_from form 1 longer ≡ out ++ text_from form (1 + length findings) rest
text-more form findings longer rest out text more =
    ap (text_from form 1) more ∙ text_from-append form 1 findings rest ∙ ap (λ o. o ++ text_from form (1 + length findings) rest) (sym text)

pub IsEndedText-more : (cell : ℕ → Cell) (form : Form) (profile : Profile) (bytes more out longer : List ℕ)
    → IsEndedText cell form profile bytes out → IsEndedText cell form profile (bytes ++ more) longer → (later : List ℕ) × (longer ≡ out ++ later)
IsEndedText-more cell form profile bytes more out longer is is' =
    let later = lines-more bytes more in
    let rest = AreFindings-more cell form profile (cut_of bytes).lines later.0 is.findings is'.findings is.are
    (subst (λ (ls : List (List ℕ)). AreFindings cell form profile ls is'.findings) later.1 is'.are) in
    (text_from form (1 + length is.findings) rest.0, is'.text ∙ text-more form is.findings is'.findings rest.0 out is.text rest.1)

pub IsReplayText-more : (cell : ℕ → Cell) (form : Form) (profile : Profile) (bytes more out whole : List ℕ) (report : Report)
    → IsEndedText cell form profile bytes out → IsReplayText cell form profile (bytes ++ more) report whole → (later : List ℕ) × (whole ≡ out ++ later)
IsReplayText-more cell form profile bytes more out whole report is is' =
    let later = lines-more bytes more in
    let last = last_line (cut_of (bytes ++ more)).rest in
    let rest = AreFindings-more cell form profile (cut_of bytes).lines (later.0 ++ last) is.findings is'.findings is.are
    (subst (λ (ls : List (List ℕ)). AreFindings cell form profile ls is'.findings)
    (ap (λ ls. ls ++ last) later.1 ∙ append_assoc (cut_of bytes).lines later.0 last) is'.are) in
    let tail = text_from form (1 + length is.findings) rest.0 in (
      tail ++ total_text report,
      is'.text ∙ ap (λ t. t ++ total_text report) (text-more form is.findings is'.findings rest.0 out is.text rest.1) ∙ append_assoc out tail (total_text report),
    )
