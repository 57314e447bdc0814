-- A run over a line, and what is kept of its scalars and marks.
use Rattle.std.proofs.Common.{◌≡◌, ℕ, ◌+◌, ◌<◌, ◌≤◌, true, false, List, [], ◌∷◌, ◌++◌, length, drop, get_or, Option, Result, Ok, Err, IfOk, IfErr, sym, ap, ◌∙◌, arith, length-append}
use Rattle.std.proofs.lemmas.Bool.{cond-false, cond-true}
use Rattle.std.proofs.lemmas.List.{drop_all}
use Rattle.lbk_notation.specs.declared.content.Content.{Content}
use Rattle.lbk_notation.specs.declared.faults.LineFault.{LineFault}
use Rattle.lbk_notation.specs.declared.faults.LineFault.TheVariants.{Memory}
use Rattle.lbk_notation.specs.declared.marks.Form.{Form}
use Rattle.lbk_notation.specs.declared.marks.Mark.{Mark}
use Rattle.lbk_notation.specs.declared.reader.State.{State}
use Rattle.lbk_notation.specs.declared.reader.State.TheVariants.{Marked, Coded}
use Rattle.lbk_notation.specs.declared.reader.Taken.TheVariants.{Dead, On, OneScalar, OneMark}
use Rattle.lbk_notation.specs.Content.{Holds, IsAnswer}
use Rattle.lbk_notation.specs.TestLine.{Line, made}
use Rattle.lbk_notation.specs.Run.{can_end, IsGood, IsRunFault, run, run_line, step_of, sort_of}
use Rattle.lbk_notation.proofs.Runs.{step_kept}

-- behind the first bytes, the run over the bytes left is that of the whole line
pub record Reads (form : Form) (state : State) (place : ℕ) (content : Content) (bytes : List ℕ) : Type 0 where
  pub scalars : List ℕ
  pub marks : List Mark
  pub few : length scalars + length marks ≤ place
  pub holds : Holds content scalars marks
  pub good : IsGood state
  pub runs : run form state place scalars marks (drop place bytes) ≡ run_line form bytes

pub Reads-on : (form : Form) (state next : State) (place : ℕ) (content : Content) (bytes : List ℕ) (d : ℕ) → place < length bytes
    → step_of form state (sort_of (get_or bytes place d)) ≡ On next → Reads form state place content bytes → Reads form next (place + 1) content bytes
Reads-on form state next place content bytes d within e was =
    let kept = step_kept form state place was.scalars was.marks bytes (On next) d _ within e was.good was.runs in
    record { scalars = was.scalars; marks = was.marks; few = omega (arith, was.few); holds = was.holds; good = kept.0; runs = kept.1 }

pub Reads-scalar : (form : Form) (state : State) (scalar place : ℕ) (content new : Content) (bytes : List ℕ) (d : ℕ) → place < length bytes
    → step_of form state (sort_of (get_or bytes place d)) ≡ OneScalar scalar
    → ((scalars : List ℕ) (marks : List Mark) → Holds content scalars marks → Holds new (scalars ++ scalar ∷ []) marks)
    → Reads form state place content bytes → Reads form Coded (place + 1) new bytes
Reads-scalar form state scalar place content new bytes d within e adds was =
    let kept = step_kept form state place was.scalars was.marks bytes (OneScalar scalar) d _ within e was.good was.runs in
    record {
      scalars = was.scalars ++ scalar ∷ [];
      marks = was.marks;
      few = omega (arith, was.few, length-append was.scalars (scalar ∷ []));
      holds = adds was.scalars was.marks was.holds;
      good = kept.0;
      runs = kept.1;
    }

pub Reads-mark : (form : Form) (state : State) (mark : Mark) (place : ℕ) (content new : Content) (bytes : List ℕ) (d : ℕ) → place < length bytes
    → step_of form state (sort_of (get_or bytes place d)) ≡ OneMark mark
    → ((scalars : List ℕ) (marks : List Mark) → Holds content scalars marks → Holds new scalars (marks ++ mark ∷ []))
    → Reads form state place content bytes → Reads form Marked (place + 1) new bytes
Reads-mark form state mark place content new bytes d within e adds was =
    let kept = step_kept form state place was.scalars was.marks bytes (OneMark mark) d _ within e was.good was.runs in
    record {
      scalars = was.scalars;
      marks = was.marks ++ mark ∷ [];
      few = omega (arith, was.few, length-append was.marks (mark ∷ []));
      holds = adds was.scalars was.marks was.holds;
      good = kept.0;
      runs = kept.1;
    }

-- a byte that no line goes on with
pub Reads-dead : (form : Form) (state : State) (place : ℕ) (content : Content) (bytes : List ℕ) (d : ℕ) → place < length bytes
    → step_of form state (sort_of (get_or bytes place d)) ≡ Dead → Reads form state place content bytes → run_line form bytes ≡ Err place
Reads-dead form state place content bytes d within e was =
    sym (step_kept form state place was.scalars was.marks bytes Dead d _ within e was.good was.runs).1

-- the end of the bytes
Reads-end : (form : Form) (state : State) (place : ℕ) (content : Content) (bytes : List ℕ) → length bytes ≤ place
    → (was : Reads form state place content bytes) → run form state place was.scalars was.marks [] ≡ run_line form bytes
Reads-end form state place content bytes over was =
    ap (λ rest. run form state place was.scalars was.marks rest) (sym (drop_all place bytes over)) ∙ was.runs

-- where no line may end
pub Reads-cut : (form : Form) (state : State) (place : ℕ) (content : Content) (bytes : List ℕ) → length bytes ≤ place → place ≤ length bytes
    → can_end state ≡ false → Reads form state place content bytes → run_line form bytes ≡ Err (length bytes)
Reads-cut form state place content bytes over within cannot was =
    let there : place ≡ length bytes = omega arith in
    sym (Reads-end form state place content bytes over was)
    ∙ cond-false (can_end state) (Ok (made was.scalars was.marks)) (Err place) cannot ∙ ap Err there

-- where one may
Reads-made : (form : Form) (state : State) (place : ℕ) (content : Content) (bytes : List ℕ) → length bytes ≤ place → can_end state ≡ true
    → (was : Reads form state place content bytes) → run_line form bytes ≡ Ok (made was.scalars was.marks)
Reads-made form state place content bytes over can was =
    sym (Reads-end form state place content bytes over was) ∙ cond-true (can_end state) (Ok (made was.scalars was.marks)) (Err place) can

said : (form : Form) (bytes scalars : List ℕ) (marks : List Mark) (r : Result (Option Line) LineFault) → run_line form bytes ≡ Ok (made scalars marks)
    → IsAnswer scalars marks r → IfOk r (λ line. run_line form bytes ≡ Ok line) × IfErr r (λ fault. IsRunFault form bytes fault)
said form bytes scalars marks (Ok line) runs is = (runs ∙ ap Ok (sym is), tt)
said form bytes scalars marks (Err Memory) runs is = (tt, (is.0, runs ∙ ap Ok is.1))
said form bytes scalars marks (Err _) runs is = elim is [ ]

pub Reads-answer : (form : Form) (state : State) (place : ℕ) (content : Content) (bytes : List ℕ) (r : Result (Option Line) LineFault)
    → length bytes ≤ place → can_end state ≡ true
    → ((scalars : List ℕ) (marks : List Mark) → Holds content scalars marks → IsAnswer scalars marks r) → Reads form state place content bytes
    → IfOk r (λ line. run_line form bytes ≡ Ok line) × IfErr r (λ fault. IsRunFault form bytes fault)
Reads-answer form state place content bytes r over can answers was =
    said form bytes was.scalars was.marks r (Reads-made form state place content bytes over can was) (answers was.scalars was.marks was.holds)
