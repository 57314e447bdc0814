-- A run of the reader over the bytes of a line. Only the contracts of its parts cite this; readers have to check the
-- grammar instead.
use Rattle.std.specs.Prelude.{◌≡◌, ℕ, ◌+◌, ◌-◌, ◌*◌, ◌^◌, ◌<◌, ◌≤◌, Bool, true, false, ◌==◌, ltb, leb, ◌||◌, ◌&&◌}
use Rattle.std.specs.Prelude.{if◌then◌else◌, List, [], ◌∷◌, ◌++◌, Option, Some, Result, Ok, Err}
use Rattle.lbk_notation.specs.declared.faults.LineFault.{LineFault}
use Rattle.lbk_notation.specs.declared.faults.LineFault.TheVariants.{LineTooLong, Bad, Memory}
use Rattle.lbk_notation.specs.declared.marks.Form.{Form}
use Rattle.lbk_notation.specs.declared.marks.Form.TheVariants.{Kinds}
use Rattle.lbk_notation.specs.declared.marks.Mark.{Mark}
use Rattle.lbk_notation.specs.declared.marks.Mark.TheVariants.{No, May, Must}
use Rattle.lbk_notation.specs.declared.reader.Sort.{Sort}
use Rattle.lbk_notation.specs.declared.reader.Sort.TheVariants.{Space, Digit, Lead, Times, Division, Exclamation}
use Rattle.lbk_notation.specs.declared.reader.Sort.TheVariants.{Return, Hash, LineFeed, Other}
use Rattle.lbk_notation.specs.declared.reader.State.{State}
use Rattle.lbk_notation.specs.declared.reader.State.TheVariants.{Start, Half, Marked, Spaced, Digits, Coded, Comment}
use Rattle.lbk_notation.specs.declared.reader.State.TheVariants.{Ended}
use Rattle.lbk_notation.specs.declared.reader.Taken.{Taken}
use Rattle.lbk_notation.specs.declared.reader.Taken.TheVariants.{Dead, On, OneScalar, OneMark}
use Rattle.lbk_notation.specs.Grammar.{is_space}
use Rattle.lbk_notation.specs.TestLine.{Line, made}

unfoldable pub sort_of : ℕ → Sort
sort_of byte =
    if is_space byte then Space
    else (if leb 48 byte && leb byte 57 then Digit (byte - 48)
    else (if leb 65 byte && leb byte 70 then Digit (byte - 55)
    else (if byte == 0xC3 then Lead
    else (if byte == 0x97 then Times
    else (if byte == 0xB7 then Division
    else (if byte == 33 then Exclamation
    else (if byte == 13 then Return
    else (if byte == 35 then Hash
    else (if byte == 10 then LineFeed else Other)))))))))

abbrev pub marking : Form → Sort → Taken
marking form Lead = On Half
marking Kinds Exclamation = OneMark Must
marking form sort = Dead

abbrev pub ending : Sort → Taken
ending Return = On Ended
ending Hash = On Comment
ending sort = Dead

abbrev pub takes_digit : ℕ → ℕ → Bool
takes_digit count number =
    if count == 4 then leb 0x1000 number else (if count == 5 then ltb number 0x11000 else ltb count 4)

abbrev pub is_scalar : ℕ → Bool
is_scalar number = ltb number 0xD800 || ltb 0xDFFF number

abbrev pub digits_step : ℕ → ℕ → Sort → Taken
digits_step count number (Digit digit) = if takes_digit count number then On (Digits (count + 1) (16 * number + digit))
    else Dead
digits_step count number Space = if leb 4 count && is_scalar number then OneScalar number else Dead
digits_step count number sort = Dead

abbrev pub start_step : Form → Sort → Taken
start_step form Space = On Start
start_step form Lead = marking form Lead
start_step form Exclamation = marking form Exclamation
start_step form sort = ending sort

abbrev pub half_step : Sort → Taken
half_step Times = OneMark No
half_step Division = OneMark May
half_step sort = Dead

abbrev pub marked_step : Sort → Taken
marked_step Space = On Spaced
marked_step sort = ending sort

abbrev pub spaced_step : Sort → Taken
spaced_step Space = On Spaced
spaced_step (Digit digit) = On (Digits 1 digit)
spaced_step sort = ending sort

abbrev pub coded_step : Form → Sort → Taken
coded_step form Space = On Coded
coded_step form sort = marking form sort

abbrev pub comment_step : Sort → Taken
comment_step LineFeed = Dead
comment_step sort = On Comment

abbrev pub step_of : Form → State → Sort → Taken
step_of form Start sort = start_step form sort
step_of form Half sort = half_step sort
step_of form Marked sort = marked_step sort
step_of form Spaced sort = spaced_step sort
step_of form (Digits count number) sort = digits_step count number sort
step_of form Coded sort = coded_step form sort
step_of form Comment sort = comment_step sort
step_of form Ended sort = Dead

abbrev pub can_end : State → Bool
can_end Half = false
can_end (Digits count number) = false
can_end Coded = false
can_end state = true

-- digits with which a token may begin: how many, and the number that they spell
pub record IsOpen (count number : ℕ) : Type 0 where
  pub few : count ≤ 6
  pub below : number < 16 ^ count
  pub five : count ≡ 5 → 0x10000 ≤ number
  pub six : count ≡ 6 → (0x100000 ≤ number) × (number < 0x110000)

abbrev pub IsGood : State → Type 0
IsGood (Digits count number) = IsOpen count number
IsGood state = Unit {0}

abbrev pub match_taken : {A : Type 0} → Taken → A → (State → A) → (ℕ → A) → (Mark → A) → A
match_taken Dead dead on scalar mark = dead
match_taken (On next) dead on scalar mark = on next
match_taken (OneScalar c) dead on scalar mark = scalar c
match_taken (OneMark m) dead on scalar mark = mark m

-- the result for the remaining bytes: in a state, at an offset, after the scalars and marks read so far
abbrev pub run : Form → State → ℕ → List ℕ → List Mark → List ℕ → Result (Option Line) ℕ
run form state place scalars marks [] = if can_end state then Ok (made scalars marks) else Err place
run form state place scalars marks (byte ∷ bytes) =
    match_taken (step_of form state (sort_of byte)) (Err place)
    (λ next. run form next (place + 1) scalars marks bytes)
    (λ scalar. run form Coded (place + 1) (scalars ++ scalar ∷ []) marks bytes)
    (λ mark. run form Marked (place + 1) scalars (marks ++ mark ∷ []) bytes)

abbrev pub run_line : Form → List ℕ → Result (Option Line) ℕ
run_line form bytes = run form Start 0 [] [] bytes

-- what a fault of the reader says about its run
abbrev pub IsRunFault : Form → List ℕ → LineFault → Type 0
IsRunFault form bytes LineTooLong = ⊥
IsRunFault form bytes (Bad at) = run_line form bytes ≡ Err at
IsRunFault form bytes Memory = (line : Line) × (run_line form bytes ≡ Ok (Some line))
