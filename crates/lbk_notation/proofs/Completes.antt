-- The reader answers what the grammar relates to the bytes.
use Rattle.std.proofs.Common.{◌≡◌, ◌≢◌, ℕ, suc, ◌+◌, ◌*◌, ◌<◌, true, ltb, leb, nat_eq, ◌&&◌, List, [], ◌∷◌, ◌++◌, length, Option, Some, None, Ok, Err, refl, ap, ◌∙◌, arith, append-nil, append_assoc, ◌⊎◌, inl, inr}
use Rattle.std.specs.List.{AllByRecursion, list_all}
use Rattle.std.proofs.lemmas.Bool.{cond-true, eq-eqb, le-leb, lt-ltb, and_from, and_parts, or_left, or_right}
use Rattle.lbk_notation.specs.declared.marks.Form.{Form}
use Rattle.lbk_notation.specs.declared.marks.Form.TheVariants.{Plain, Kinds}
use Rattle.lbk_notation.specs.declared.marks.Mark.{Mark}
use Rattle.lbk_notation.specs.declared.marks.Mark.TheVariants.{No, May, Must}
use Rattle.lbk_notation.specs.declared.reader.Sort.{Sort}
use Rattle.lbk_notation.specs.declared.reader.Sort.TheVariants.{Space, Lead, Exclamation, Return, Hash, LineFeed}
use Rattle.lbk_notation.specs.declared.reader.State.{State}
use Rattle.lbk_notation.specs.declared.reader.State.TheVariants.{Start, Half, Marked, Spaced, Digits, Coded, Comment, Ended}
use Rattle.lbk_notation.specs.declared.reader.Taken.{Taken}
use Rattle.lbk_notation.specs.declared.reader.Taken.TheVariants.{Dead, On, OneScalar, OneMark}
use Rattle.lbk_notation.specs.TestLine.{Line, made}
use Rattle.lbk_notation.specs.Grammar.{is_space, IsBlank, IsGap, mark_bytes, Has, digit_byte, token_bytes, number_of, IsToken, IsEnd, IsAfter, last, more, IsLine, no_line, line}
use Rattle.lbk_notation.specs.Run.{step_of, sort_of, marking, comment_step, digits_step, takes_digit, is_scalar, can_end, run, run_line}
use Rattle.lbk_notation.proofs.Runs.{run_taken, run_step}
use Rattle.lbk_notation.proofs.Sorts.{sort-space, sort-digit, sign-sorts, sort-no-line-feed}

-- at whatever place, the run over these bytes answers the value
abbrev pub Gives : Form → State → List ℕ → List Mark → List ℕ → Option Line → Type 0
Gives form state scalars marks bytes value = (place : ℕ) → run form state place scalars marks bytes ≡ Ok value

abbrev GivesTaken : Form → Taken → List ℕ → List Mark → List ℕ → Option Line → Type 0
GivesTaken form taken scalars marks bytes value = (place : ℕ) → run_taken form taken place scalars marks bytes ≡ Ok value

-- one byte
pub take_byte : (form : Form) (state : State) (taken : Taken) (scalars : List ℕ) (marks : List Mark) (byte : ℕ) (bytes : List ℕ) (value : Option Line)
    → step_of form state (sort_of byte) ≡ taken → GivesTaken form taken scalars marks bytes value → Gives form state scalars marks (byte ∷ bytes) value
take_byte form state taken scalars marks byte bytes value e gives = λ place. run_step form state place scalars marks byte bytes taken e ∙ gives place

-- ws*, in a state that it does not change
pub blanks : (form : Form) (state : State) (scalars : List ℕ) (marks : List Mark) (blank rest : List ℕ) (value : Option Line)
    → step_of form state Space ≡ On state → IsBlank blank → Gives form state scalars marks rest value
    → Gives form state scalars marks (blank ++ rest) value
blanks form state scalars marks [] rest value loops blank gives = gives
blanks form state scalars marks (byte ∷ bytes) rest value loops blank gives =
    let parts = and_parts (is_space byte) (list_all is_space bytes) blank in
    take_byte form state (On state) scalars marks byte (bytes ++ rest) value (ap (step_of form state) (sort-space byte parts.0) ∙ loops)
    (λ place. blanks form state scalars marks bytes rest value loops parts.1 gives (place + 1))

comment_on : (byte : ℕ) (sort : Sort) → sort_of byte ≡ sort → byte ≢ 10 → comment_step sort ≡ On Comment
comment_on byte LineFeed is other = absurd (other (sort-no-line-feed byte is))
comment_on byte _ is other = refl

-- the bytes of a comment
pub comments : (form : Form) (scalars : List ℕ) (marks : List Mark) (bytes : List ℕ) → AllByRecursion (λ byte. byte ≢ 10) bytes
    → Gives form Comment scalars marks bytes (made scalars marks)
comments form scalars marks [] none = λ place. refl
comments form scalars marks (byte ∷ bytes) none =
    take_byte form Comment (On Comment) scalars marks byte bytes (made scalars marks) (comment_on byte (sort_of byte) refl none.0)
    (λ place. comments form scalars marks bytes none.1 (place + 1))

-- the end, in a state where a line may end
pub ends : (form : Form) (state : State) (scalars : List ℕ) (marks : List Mark) (end : List ℕ) → can_end state ≡ true
    → step_of form state Return ≡ On Ended → step_of form state Hash ≡ On Comment → IsEnd end
    → Gives form state scalars marks end (made scalars marks)
ends form state scalars marks [] can return hash end =
    λ place. cond-true (can_end state) (Ok (made scalars marks)) (Err place) can
ends form state scalars marks (byte ∷ bytes) can return hash (inl (is, nothing)) =
    take_byte form state (On Ended) scalars marks byte bytes (made scalars marks) (ap (λ b. step_of form state (sort_of b)) is ∙ ap (step_of form state) sign-sorts.returns ∙ return)
    (λ place. ap (run form Ended (place + 1) scalars marks) nothing)
ends form state scalars marks (byte ∷ bytes) can return hash (inr (is, none)) =
    take_byte form state (On Comment) scalars marks byte bytes (made scalars marks) (ap (λ b. step_of form state (sort_of b)) is ∙ ap (step_of form state) sign-sorts.hash ∙ hash)
    (λ place. comments form scalars marks bytes none (place + 1))

-- ws+ behind a mark
pub gaps : (form : Form) (scalars : List ℕ) (marks : List Mark) (gap rest : List ℕ) (value : Option Line) → IsGap gap
    → Gives form Spaced scalars marks rest value → Gives form Marked scalars marks (gap ++ rest) value
gaps form scalars marks [] rest value gap gives = elim gap [ ]
gaps form scalars marks (byte ∷ bytes) rest value gap gives =
    take_byte form Marked (On Spaced) scalars marks byte (bytes ++ rest) value (ap (step_of form Marked) (sort-space byte gap.0))
    (λ place. blanks form Spaced scalars marks bytes rest value refl gap.1 gives (place + 1))

-- a mark
pub marked : (form : Form) (state : State) (scalars : List ℕ) (marks : List Mark) (mark : Mark) (rest : List ℕ) (value : Option Line)
    → step_of form state Lead ≡ On Half → step_of form state Exclamation ≡ marking form Exclamation → Has form mark
    → Gives form Marked scalars (marks ++ mark ∷ []) rest value → Gives form state scalars marks (mark_bytes mark ++ rest) value
marked form state scalars marks No rest value lead exclamation has gives =
    take_byte form state (On Half) scalars marks 0xC3 (0x97 ∷ rest) value (ap (step_of form state) sign-sorts.lead ∙ lead)
    (λ place. take_byte form Half (OneMark No) scalars marks 0x97 rest value (ap (step_of form Half) sign-sorts.times) (λ p. gives (p + 1)) (place + 1))
marked form state scalars marks May rest value lead exclamation has gives =
    take_byte form state (On Half) scalars marks 0xC3 (0xB7 ∷ rest) value (ap (step_of form state) sign-sorts.lead ∙ lead)
    (λ place. take_byte form Half (OneMark May) scalars marks 0xB7 rest value (ap (step_of form Half) sign-sorts.division) (λ p. gives (p + 1)) (place + 1))
marked Kinds state scalars marks Must rest value lead exclamation has gives =
    take_byte Kinds state (OneMark Must) scalars marks 33 rest value (ap (step_of Kinds state) sign-sorts.exclamation ∙ exclamation) (λ place. gives (place + 1))
marked Plain state scalars marks Must rest value lead exclamation has gives = elim has [ ]

-- a digit that may follow
pub digit_on : (form : Form) (count number digit : ℕ) (scalars : List ℕ) (marks : List Mark) (rest : List ℕ) (value : Option Line) → digit < 16
    → takes_digit count number ≡ true → Gives form (Digits (count + 1) (16 * number + digit)) scalars marks rest value
    → Gives form (Digits count number) scalars marks (digit_byte digit ∷ rest) value
digit_on form count number digit scalars marks rest value small takes gives =
    take_byte form (Digits count number) (On (Digits (count + 1) (16 * number + digit))) scalars marks (digit_byte digit) rest value
    (ap (digits_step count number) (sort-digit digit small) ∙ cond-true (takes_digit count number) (On (Digits (count + 1) (16 * number + digit))) Dead takes)
    (λ place. gives (place + 1))

-- ws+ behind a token
pub token_off : (form : Form) (count number : ℕ) (scalars : List ℕ) (marks : List Mark) (gap rest : List ℕ) (value : Option Line)
    → leb 4 count ≡ true → is_scalar number ≡ true → IsGap gap → Gives form Coded (scalars ++ number ∷ []) marks rest value
    → Gives form (Digits count number) scalars marks (gap ++ rest) value
token_off form count number scalars marks [] rest value four scalar gap gives = elim gap [ ]
token_off form count number scalars marks (byte ∷ bytes) rest value four scalar gap gives =
    take_byte form (Digits count number) (OneScalar number) scalars marks byte (bytes ++ rest) value
    (ap (digits_step count number) (sort-space byte gap.0)
    ∙ cond-true (leb 4 count && is_scalar number) (OneScalar number) Dead (and_from (leb 4 count) (is_scalar number) four scalar))
    (λ place. blanks form Coded (scalars ++ number ∷ []) marks bytes rest value refl gap.1 gives (place + 1))

first_digit : (form : Form) (digit : ℕ) (scalars : List ℕ) (marks : List Mark) (rest : List ℕ) (value : Option Line) → digit < 16
    → Gives form (Digits 1 digit) scalars marks rest value → Gives form Spaced scalars marks (digit_byte digit ∷ rest) value
first_digit form digit scalars marks rest value small gives =
    take_byte form Spaced (On (Digits 1 digit)) scalars marks (digit_byte digit) rest value (ap (step_of form Spaced) (sort-digit digit small))
    (λ place. gives (place + 1))

four_scalar : (number : ℕ) → (number < 0xD800) ⊎ (0xDFFF < number) → is_scalar number ≡ true
four_scalar number (inl low) = or_left (ltb number 0xD800) (ltb 0xDFFF number) (lt-ltb number 0xD800 low)
four_scalar number (inr high) = or_right (ltb number 0xD800) (ltb 0xDFFF number) (lt-ltb 0xDFFF number high)

-- a token and ws+ behind it
pub tokens : (form : Form) (scalars : List ℕ) (marks : List Mark) (digits gap rest : List ℕ) (value : Option Line) → IsToken digits → IsGap gap
    → Gives form Coded (scalars ++ number_of digits ∷ []) marks rest value
    → Gives form Spaced scalars marks (token_bytes digits ++ (gap ++ rest)) value
tokens form scalars marks (a ∷ b ∷ c ∷ d ∷ []) gap rest value token space gives =
    let each = token.each in
    first_digit form a scalars marks (token_bytes (b ∷ c ∷ d ∷ []) ++ (gap ++ rest)) value each.0
    (digit_on form 1 a b scalars marks (token_bytes (c ∷ d ∷ []) ++ (gap ++ rest)) value each.1.0 refl
    (digit_on form 2 (16 * a + b) c scalars marks (token_bytes (d ∷ []) ++ (gap ++ rest)) value each.1.1.0 refl
    (digit_on form 3 (16 * (16 * a + b) + c) d scalars marks (gap ++ rest) value each.1.1.1.0 refl
    (token_off form 4 (number_of (a ∷ b ∷ c ∷ d ∷ [])) scalars marks gap rest value refl
    (four_scalar (number_of (a ∷ b ∷ c ∷ d ∷ [])) token.shape) space gives))))
tokens form scalars marks (a ∷ b ∷ c ∷ d ∷ e ∷ []) gap rest value token space gives =
    let each = token.each in
    let some : a ≢ 0 = token.shape in
    first_digit form a scalars marks (token_bytes (b ∷ c ∷ d ∷ e ∷ []) ++ (gap ++ rest)) value each.0
    (digit_on form 1 a b scalars marks (token_bytes (c ∷ d ∷ e ∷ []) ++ (gap ++ rest)) value each.1.0 refl
    (digit_on form 2 (16 * a + b) c scalars marks (token_bytes (d ∷ e ∷ []) ++ (gap ++ rest)) value each.1.1.0 refl
    (digit_on form 3 (16 * (16 * a + b) + c) d scalars marks (token_bytes (e ∷ []) ++ (gap ++ rest)) value each.1.1.1.0 refl
    (digit_on form 4 (number_of (a ∷ b ∷ c ∷ d ∷ [])) e scalars marks (gap ++ rest) value each.1.1.1.1.0
    (le-leb 0x1000 (number_of (a ∷ b ∷ c ∷ d ∷ [])) (omega arith))
    (token_off form 5 (number_of (a ∷ b ∷ c ∷ d ∷ e ∷ [])) scalars marks gap rest value refl
    (four_scalar (number_of (a ∷ b ∷ c ∷ d ∷ e ∷ [])) (inr (omega arith))) space gives)))))
tokens form scalars marks (a ∷ b ∷ c ∷ d ∷ e ∷ f ∷ []) gap rest value token space gives =
    let each = token.each in
    let one : a ≡ 1 = token.shape.0 in
    let nil : b ≡ 0 = token.shape.1 in
    let small : (c < 16) × (d < 16) × (e < 16) = (each.1.1.0, each.1.1.1.0, each.1.1.1.1.0) in
    first_digit form a scalars marks (token_bytes (b ∷ c ∷ d ∷ e ∷ f ∷ []) ++ (gap ++ rest)) value each.0
    (digit_on form 1 a b scalars marks (token_bytes (c ∷ d ∷ e ∷ f ∷ []) ++ (gap ++ rest)) value each.1.0 refl
    (digit_on form 2 (16 * a + b) c scalars marks (token_bytes (d ∷ e ∷ f ∷ []) ++ (gap ++ rest)) value each.1.1.0 refl
    (digit_on form 3 (16 * (16 * a + b) + c) d scalars marks (token_bytes (e ∷ f ∷ []) ++ (gap ++ rest)) value each.1.1.1.0 refl
    (digit_on form 4 (number_of (a ∷ b ∷ c ∷ d ∷ [])) e scalars marks (token_bytes (f ∷ []) ++ (gap ++ rest)) value each.1.1.1.1.0
    (le-leb 0x1000 (number_of (a ∷ b ∷ c ∷ d ∷ [])) (omega arith))
    (digit_on form 5 (number_of (a ∷ b ∷ c ∷ d ∷ e ∷ [])) f scalars marks (gap ++ rest) value each.1.1.1.1.1.0
    (lt-ltb (number_of (a ∷ b ∷ c ∷ d ∷ e ∷ [])) 0x11000 (omega arith))
    (token_off form 6 (number_of (a ∷ b ∷ c ∷ d ∷ e ∷ f ∷ [])) scalars marks gap rest value refl
    (four_scalar (number_of (a ∷ b ∷ c ∷ d ∷ e ∷ f ∷ [])) (inr (omega arith))) space gives))))))
tokens form scalars marks _ gap rest value token space gives = elim token.shape [ ]

-- what may follow a mark
pub afters : (form : Form) (before : List ℕ) (before' : List Mark) (scalars : List ℕ) (marks : List Mark) (bytes : List ℕ)
    → IsAfter form scalars marks bytes → Gives form Marked before before' bytes (made (before ++ scalars) (before' ++ marks))
afters form before before' _ _ _ (last [] end blank ends') =
    rw (append-nil before, append-nil before') (ends form Marked before before' end refl refl refl ends')
afters form before before' _ _ _ (last (byte ∷ blank) end space ends') =
    rw (append-nil before, append-nil before')
    (gaps form before before' (byte ∷ blank) end (made before before') (and_parts (is_space byte) (list_all is_space blank) space)
    (ends form Spaced before before' end refl refl refl ends'))
afters form before before' _ _ _ (more gap digits gap' mark rest scalars marks space token space' has after) =
    rw (← append_assoc before (number_of digits ∷ []) scalars, ← append_assoc before' (mark ∷ []) marks)
    (gaps form before before' gap _ _ space
    (tokens form before before' digits gap' (mark_bytes mark ++ rest) _ token space'
    (marked form Coded (before ++ number_of digits ∷ []) before' mark rest _ refl refl has
    (afters form (before ++ number_of digits ∷ []) (before' ++ mark ∷ []) scalars marks rest after))))

pub length-after : (form : Form) (scalars : List ℕ) (marks : List Mark) (bytes : List ℕ) → IsAfter form scalars marks bytes → length marks ≡ length scalars
length-after form _ _ _ (last blank end b e) = refl
length-after form _ _ _ (more gap digits gap' mark rest scalars marks s t s' h after) = ap suc (length-after form scalars marks rest after)

pub made-some : (scalars : List ℕ) (marks : List Mark) → length marks ≡ length scalars + 1
    → made scalars marks ≡ Some (record { scalars = scalars; marks = marks })
made-some scalars marks e =
    cond-true (nat_eq (length marks) (length scalars + 1)) (Some (record { scalars = scalars; marks = marks })) None (eq-eqb (length marks) (length scalars + 1) e)

-- every line of the grammar is read as what it says
pub complete : (form : Form) (bytes : List ℕ) (value : Option Line) → IsLine form bytes value → run_line form bytes ≡ Ok value
complete form _ _ (no_line blank end space ends') =
    blanks form Start [] [] blank end None refl space (ends form Start [] [] end refl refl refl ends') 0
complete form _ _ (line blank mark rest scalars marks space has after) =
    rw (← made-some scalars (mark ∷ marks) (omega (arith, length-after form scalars marks rest after)))
    (blanks form Start [] [] blank (mark_bytes mark ++ rest) (made scalars (mark ∷ marks)) refl space
    (marked form Start [] [] mark rest (made scalars (mark ∷ marks)) refl refl has (afters form [] (mark ∷ []) scalars marks rest after)) 0)
