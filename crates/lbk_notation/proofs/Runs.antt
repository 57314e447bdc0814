-- One step of a run.
use Rattle.std.proofs.Common.{◌≡◌, ℕ, ◌+◌, ◌*◌, ◌<◌, List, [], ◌∷◌, ◌++◌, Option, Result, Err, ap, sym, subst, ◌∙◌, get_or, drop, length, leb, ◌&&◌, lit≤, arith}
use Rattle.std.proofs.lemmas.Bool.{cond_both}
use Rattle.std.proofs.lemmas.List.{drop_more}
use Rattle.lbk_notation.specs.declared.marks.Form.{Form}
use Rattle.lbk_notation.specs.declared.marks.Form.TheVariants.{Plain, Kinds}
use Rattle.lbk_notation.specs.declared.marks.Mark.{Mark}
use Rattle.lbk_notation.specs.declared.reader.Sort.{Sort}
use Rattle.lbk_notation.specs.declared.reader.Sort.TheVariants.{Space, Digit, Lead, Times, Exclamation, Return, LineFeed, Other}
use Rattle.lbk_notation.specs.declared.reader.State.{State}
use Rattle.lbk_notation.specs.declared.reader.State.TheVariants.{Start, Half, Marked, Spaced, Digits, Coded, Comment, Ended}
use Rattle.lbk_notation.specs.declared.reader.Taken.{Taken}
use Rattle.lbk_notation.specs.declared.reader.Taken.TheVariants.{Dead, On, OneScalar}
use Rattle.lbk_notation.specs.TestLine.{Line}
use Rattle.lbk_notation.specs.Run.{IsGood, step_of, sort_of, takes_digit, is_scalar, digits_step, start_step, spaced_step, coded_step, marking, ending, match_taken, run}
use Rattle.lbk_notation.proofs.Digits.{open-more}
use Rattle.lbk_notation.proofs.Sorts.{Sorted, sorted}

-- what is answered once a byte was taken
abbrev pub run_taken : Form → Taken → ℕ → List ℕ → List Mark → List ℕ → Result (Option Line) ℕ
run_taken form taken place scalars marks bytes =
    match_taken taken (Err place)
    (λ next. run form next (place + 1) scalars marks bytes)
    (λ scalar. run form Coded (place + 1) (scalars ++ scalar ∷ []) marks bytes)
    (λ mark. run form Marked (place + 1) scalars (marks ++ mark ∷ []) bytes)

-- the same where it is known what the byte does
pub run_step : (form : Form) (state : State) (place : ℕ) (scalars : List ℕ) (marks : List Mark) (byte : ℕ) (bytes : List ℕ) (taken : Taken)
    → step_of form state (sort_of byte) ≡ taken → run form state place scalars marks (byte ∷ bytes) ≡ run_taken form taken place scalars marks bytes
run_step form state place scalars marks byte bytes taken e = ap (λ t. run_taken form t place scalars marks bytes) e

-- the same within a list
pub run_at : (form : Form) (state : State) (place : ℕ) (scalars : List ℕ) (marks : List Mark) (bytes : List ℕ) (taken : Taken) (d : ℕ)
    → place < length bytes → step_of form state (sort_of (get_or bytes place d)) ≡ taken
    → run form state place scalars marks (drop place bytes) ≡ run_taken form taken place scalars marks (drop (place + 1) bytes)
run_at form state place scalars marks bytes taken d within e =
    ap (λ rest. run form state place scalars marks rest) (drop_more bytes place d within)
    ∙ run_step form state place scalars marks (get_or bytes place d) (drop (place + 1) bytes) taken e

-- the states that a byte leads to stay good
abbrev pub IsGoodTaken : Taken → Type 0
IsGoodTaken (On next) = IsGood next
IsGoodTaken taken = Unit {0}

good_digits : (count number byte : ℕ) (sort : Sort) → IsGood (Digits count number) → Sorted byte sort → IsGoodTaken (digits_step count number sort)
good_digits count number byte (Digit digit) good is =
    cond_both (takes_digit count number) (On (Digits (count + 1) (16 * number + digit))) Dead IsGoodTaken
    (λ e. open-more count number digit good e is.0) (λ _. tt)
good_digits count number byte Space good is =
    cond_both (leb 4 count && is_scalar number) (OneScalar number) Dead IsGoodTaken (λ _. tt) (λ _. tt)
good_digits count number byte _ good is = tt

good_marking : (form : Form) (sort : Sort) → IsGoodTaken (marking form sort)
good_marking Kinds Exclamation = tt
good_marking Kinds _ = tt
good_marking Plain Exclamation = tt
good_marking Plain _ = tt

good_ending : (sort : Sort) → IsGoodTaken (ending sort)
good_ending Return = tt
good_ending _ = tt

good_start : (form : Form) (sort : Sort) → IsGoodTaken (start_step form sort)
good_start form Space = tt
good_start form Lead = tt
good_start form Exclamation = good_marking form Exclamation
good_start form Return = tt
good_start form _ = tt

good_spaced : (byte : ℕ) (sort : Sort) → Sorted byte sort → IsGoodTaken (spaced_step sort)
good_spaced byte (Digit digit) is =
    record { few = lit≤ tt; below = is.0; five = λ e. absurd (omega (arith, e)); six = λ e. absurd (omega (arith, e)) }
good_spaced byte Space is = tt
good_spaced byte _ is = tt

good_coded : (form : Form) (sort : Sort) → IsGoodTaken (coded_step form sort)
good_coded form Space = tt
good_coded form Exclamation = good_marking form Exclamation
good_coded form Lead = tt
good_coded Kinds Other = tt
good_coded Plain Other = tt
good_coded Kinds _ = tt
good_coded Plain _ = tt

pub good_step : (form : Form) (state : State) (byte : ℕ) (sort : Sort) → IsGood state → Sorted byte sort → IsGoodTaken (step_of form state sort)
good_step form Start byte sort good is = good_start form sort
good_step form Half byte Times good is = tt
good_step form Half byte _ good is = tt
good_step form Marked byte Space good is = tt
good_step form Marked byte Return good is = tt
good_step form Marked byte _ good is = tt
good_step form Spaced byte sort good is = good_spaced byte sort is
good_step form (Digits count number) byte sort good is = good_digits count number byte sort good is
good_step form Coded byte sort good is = good_coded form sort
good_step form Comment byte LineFeed good is = tt
good_step form Comment byte _ good is = tt
good_step form Ended byte sort good is = tt

-- a step keeps what a loop over the bytes knows
pub step_kept : (form : Form) (state : State) (place : ℕ) (scalars : List ℕ) (marks : List Mark) (bytes : List ℕ) (taken : Taken) (d : ℕ)
    (whole : Result (Option Line) ℕ) → place < length bytes → step_of form state (sort_of (get_or bytes place d)) ≡ taken → IsGood state
    → run form state place scalars marks (drop place bytes) ≡ whole
    → IsGoodTaken taken × (run_taken form taken place scalars marks (drop (place + 1) bytes) ≡ whole)
step_kept form state place scalars marks bytes taken d whole within e good runs = (
  subst IsGoodTaken e (good_step form state (get_or bytes place d) (sort_of (get_or bytes place d)) good (sorted (get_or bytes place d))),
  sym (run_at form state place scalars marks bytes taken d within e) ∙ runs,
)
