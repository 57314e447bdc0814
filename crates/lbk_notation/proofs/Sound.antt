-- The grammar relates to the bytes what the reader answers.
use Rattle.std.proofs.Common.{◌≡◌, ◌≢◌, ℕ, ◌+◌, ◌*◌, ◌<◌, ◌≤◌, Bool, true, false, ltb, leb, ◌&&◌, cond, IsTrue, List, [], ◌∷◌, ◌++◌, length, Option, Result, Ok, Err, refl, ap, sym, subst, ◌∙◌, arith, append-nil, append_assoc, length-append, inl, inr}
use Rattle.std.specs.List.{AllByRecursion, list_all}
use Rattle.std.proofs.lemmas.Bool.Decides.{nat_tests}
use Rattle.std.proofs.lemmas.Bool.{and_from, and_parts, or_cases, ltb-true, leb-true}
use Rattle.lbk_notation.specs.declared.marks.Form.{Form}
use Rattle.lbk_notation.specs.declared.marks.Form.TheVariants.{Plain, Kinds}
use Rattle.lbk_notation.specs.declared.marks.Mark.{Mark}
use Rattle.lbk_notation.specs.declared.marks.Mark.TheVariants.{No, May, Must}
use Rattle.lbk_notation.specs.declared.reader.Sort.{Sort}
use Rattle.lbk_notation.specs.declared.reader.Sort.TheVariants.{Space, Digit, Lead, Times, Division, Exclamation, Return, Hash, LineFeed, Other}
use Rattle.lbk_notation.specs.declared.reader.State.{State}
use Rattle.lbk_notation.specs.declared.reader.State.TheVariants.{Start, Half, Marked, Spaced, Digits, Coded, Comment, Ended}
use Rattle.lbk_notation.specs.declared.reader.Taken.{Taken}
use Rattle.lbk_notation.specs.declared.reader.Taken.TheVariants.{Dead, On, OneScalar, OneMark}
use Rattle.lbk_notation.specs.TestLine.{Line, made}
use Rattle.lbk_notation.specs.Grammar.{is_space, IsBlank, mark_bytes, Has, digit_byte, token_bytes, number_of, number_behind, HasShape, IsToken, IsEnd, IsAfter, last, more, IsLine, no_line, line}
use Rattle.lbk_notation.specs.Run.{IsGood, IsOpen, step_of, sort_of, marking, ending, start_step, half_step, marked_step, spaced_step, coded_step, comment_step, digits_step, takes_digit, is_scalar, can_end, run, run_line}
use Rattle.lbk_notation.proofs.Completes.{length-after, made-some}
use Rattle.lbk_notation.proofs.Runs.{IsGoodTaken, run_taken, good_step}
use Rattle.lbk_notation.proofs.Sorts.{Sorted, sorted}

-- ws*, a mark and what may follow it
data IsMarked (form : Form) : List ℕ → List Mark → List ℕ → Type 0 where
  mark_in : (blank : List ℕ) (mark : Mark) (rest scalars : List ℕ) (marks : List Mark) → IsBlank blank → Has form mark
      → IsAfter form scalars marks rest → IsMarked form scalars (mark ∷ marks) (blank ++ (mark_bytes mark ++ rest))

data IsStart (form : Form) : List ℕ → List Mark → List ℕ → Type 0 where
  nothing : (blank end : List ℕ) → IsBlank blank → IsEnd end → IsStart form [] [] (blank ++ end)
  something : (scalars : List ℕ) (marks : List Mark) (bytes : List ℕ) → IsMarked form scalars marks bytes → IsStart form scalars marks bytes

-- the second byte of × or ÷, and what may follow the mark
data IsHalf (form : Form) : List ℕ → List Mark → List ℕ → Type 0 where
  times : (scalars : List ℕ) (marks : List Mark) (rest : List ℕ) → IsAfter form scalars marks rest → IsHalf form scalars (No ∷ marks) (0x97 ∷ rest)
  division : (scalars : List ℕ) (marks : List Mark) (rest : List ℕ) → IsAfter form scalars marks rest → IsHalf form scalars (May ∷ marks) (0xB7 ∷ rest)

data IsComment : List ℕ → List Mark → List ℕ → Type 0 where
  comment : (bytes : List ℕ) → AllByRecursion (λ byte. byte ≢ 10) bytes → IsComment [] [] bytes

data IsNothing : List ℕ → List Mark → List ℕ → Type 0 where
  over : IsNothing [] [] []

-- these digits, of this count and this number
record Spells (digits : List ℕ) (count number : ℕ) : Type 0 where
  each : AllByRecursion (λ digit. digit < 16) digits
  many : length digits ≡ count
  is : number_of digits ≡ number

-- what may come in a state; in two of them, behind what was read before
abbrev Rest : Form → State → List ℕ → List Mark → List ℕ → Type 0
Rest form Start scalars marks bytes = IsStart form scalars marks bytes
Rest form Half scalars marks bytes = IsHalf form scalars marks bytes
Rest form Marked scalars marks bytes = IsAfter form scalars marks bytes
Rest form Spaced scalars marks bytes = (byte : ℕ) → IsTrue (is_space byte) → IsAfter form scalars marks (byte ∷ bytes)
Rest form (Digits count number) scalars marks bytes = (digits : List ℕ) → Spells digits count number → (byte : ℕ)
    → IsTrue (is_space byte) → IsAfter form scalars marks (byte ∷ (token_bytes digits ++ bytes))
Rest form Coded scalars marks bytes = IsMarked form scalars marks bytes
Rest form Comment scalars marks bytes = IsComment scalars marks bytes
Rest form Ended scalars marks bytes = IsNothing scalars marks bytes

data ScalarThen (form : Form) (scalar : ℕ) : List ℕ → List Mark → List ℕ → Type 0 where
  scalar_then : (scalars : List ℕ) (marks : List Mark) (bytes : List ℕ) → IsMarked form scalars marks bytes
      → ScalarThen form scalar (scalar ∷ scalars) marks bytes

data MarkThen (form : Form) (mark : Mark) : List ℕ → List Mark → List ℕ → Type 0 where
  mark_then : (scalars : List ℕ) (marks : List Mark) (bytes : List ℕ) → IsAfter form scalars marks bytes
      → MarkThen form mark scalars (mark ∷ marks) bytes

-- what may come once a byte was taken
abbrev Follows : Form → Taken → List ℕ → List Mark → List ℕ → Type 0
Follows form Dead scalars marks bytes = ⊥
Follows form (On next) scalars marks bytes = Rest form next scalars marks bytes
Follows form (OneScalar scalar) scalars marks bytes = ScalarThen form scalar scalars marks bytes
Follows form (OneMark mark) scalars marks bytes = MarkThen form mark scalars marks bytes

blank-more : (byte : ℕ) (blank : List ℕ) → IsTrue (is_space byte) → IsBlank blank → IsBlank (byte ∷ blank)
blank-more byte blank space b = and_from (is_space byte) (list_all is_space blank) space b

-- white space before what may follow a mark may follow it too
widen : (form : Form) (scalars : List ℕ) (marks : List Mark) (bytes : List ℕ) (byte : ℕ) → IsTrue (is_space byte)
    → IsAfter form scalars marks bytes → IsAfter form scalars marks (byte ∷ bytes)
widen form _ _ _ byte space (last blank end b e) = last (byte ∷ blank) end (blank-more byte blank space b) e
widen form _ _ _ byte space (more [] digits gap' mark rest scalars marks g t g' h a) = elim g [ ]
widen form _ _ _ byte space (more (b ∷ gap) digits gap' mark rest scalars marks g t g' h a) =
    more (byte ∷ (b ∷ gap)) digits gap' mark rest scalars marks (space, blank-more b gap g.0 g.1) t g' h a

-- a comment or a carriage return, behind white space that may stand there
ended : (form : Form) (byte : ℕ) (sort : Sort) (scalars : List ℕ) (marks : List Mark) (bytes : List ℕ) → Sorted byte sort
    → Follows form (ending sort) scalars marks bytes → (scalars ≡ []) × (marks ≡ []) × IsEnd (byte ∷ bytes)
ended form byte Return _ _ _ is over = (refl, refl, inl (is, refl))
ended form byte Hash _ _ _ is (comment bytes none) = (refl, refl, inr (is, none))
ended form byte _ scalars marks bytes is follows = elim follows [ ]

ended_after : (form : Form) (blank : List ℕ) (byte : ℕ) (sort : Sort) (scalars : List ℕ) (marks : List Mark) (bytes : List ℕ) → IsBlank blank
    → Sorted byte sort → Follows form (ending sort) scalars marks bytes → IsAfter form scalars marks (blank ++ (byte ∷ bytes))
ended_after form blank byte sort scalars marks bytes b is follows =
    let e = ended form byte sort scalars marks bytes is follows in
    rw (e.0, e.1) (last blank (byte ∷ bytes) b e.2)

-- a mark that begins here
begun : (form : Form) (byte : ℕ) (sort : Sort) (scalars : List ℕ) (marks : List Mark) (bytes : List ℕ) → Sorted byte sort
    → Follows form (marking form sort) scalars marks bytes → IsMarked form scalars marks (byte ∷ bytes)
begun Kinds byte Lead _ _ _ is (times scalars marks rest after) = rw is (mark_in [] No rest scalars marks refl tt after)
begun Kinds byte Lead _ _ _ is (division scalars marks rest after) = rw is (mark_in [] May rest scalars marks refl tt after)
begun Plain byte Lead _ _ _ is (times scalars marks rest after) = rw is (mark_in [] No rest scalars marks refl tt after)
begun Plain byte Lead _ _ _ is (division scalars marks rest after) = rw is (mark_in [] May rest scalars marks refl tt after)
begun Kinds byte Exclamation _ _ _ is (mark_then scalars marks rest after) = rw is (mark_in [] Must rest scalars marks refl tt after)
begun Plain byte Exclamation scalars marks bytes is follows = elim follows [ ]
begun Kinds byte _ scalars marks bytes is follows = elim follows [ ]
begun Plain byte _ scalars marks bytes is follows = elim follows [ ]

-- white space before a mark
widen_marked : (form : Form) (scalars : List ℕ) (marks : List Mark) (bytes : List ℕ) (byte : ℕ) → IsTrue (is_space byte)
    → IsMarked form scalars marks bytes → IsMarked form scalars marks (byte ∷ bytes)
widen_marked form _ _ _ byte space (mark_in blank mark rest scalars marks b h a) = mark_in (byte ∷ blank) mark rest scalars marks (blank-more byte blank space b) h a

widen_start : (form : Form) (scalars : List ℕ) (marks : List Mark) (bytes : List ℕ) (byte : ℕ) → IsTrue (is_space byte)
    → IsStart form scalars marks bytes → IsStart form scalars marks (byte ∷ bytes)
widen_start form _ _ _ byte space (nothing blank end b e) = nothing (byte ∷ blank) end (blank-more byte blank space b) e
widen_start form _ _ _ byte space (something scalars marks bytes m) = something scalars marks (byte ∷ bytes) (widen_marked form scalars marks bytes byte space m)

ended_start : (form : Form) (byte : ℕ) (sort : Sort) (scalars : List ℕ) (marks : List Mark) (bytes : List ℕ) → Sorted byte sort
    → Follows form (ending sort) scalars marks bytes → IsStart form scalars marks (byte ∷ bytes)
ended_start form byte sort scalars marks bytes is follows =
    let e = ended form byte sort scalars marks bytes is follows in
    rw (e.0, e.1) (nothing [] (byte ∷ bytes) refl e.2)

back_start : (form : Form) (byte : ℕ) (sort : Sort) (scalars : List ℕ) (marks : List Mark) (bytes : List ℕ) → Sorted byte sort
    → Follows form (start_step form sort) scalars marks bytes → IsStart form scalars marks (byte ∷ bytes)
back_start form byte Space scalars marks bytes is follows = widen_start form scalars marks bytes byte is follows
back_start form byte Lead scalars marks bytes is follows = something scalars marks (byte ∷ bytes) (begun form byte Lead scalars marks bytes is follows)
back_start form byte Exclamation scalars marks bytes is follows =
    something scalars marks (byte ∷ bytes) (begun form byte Exclamation scalars marks bytes is follows)
back_start form byte Return scalars marks bytes is follows = ended_start form byte Return scalars marks bytes is follows
back_start form byte Hash scalars marks bytes is follows = ended_start form byte Hash scalars marks bytes is follows
back_start form byte _ scalars marks bytes is follows = elim follows [ ]

back_half : (form : Form) (byte : ℕ) (sort : Sort) (scalars : List ℕ) (marks : List Mark) (bytes : List ℕ) → Sorted byte sort
    → Follows form (half_step sort) scalars marks bytes → IsHalf form scalars marks (byte ∷ bytes)
back_half form byte Times _ _ _ is (mark_then scalars marks bytes after) = rw is (times scalars marks bytes after)
back_half form byte Division _ _ _ is (mark_then scalars marks bytes after) = rw is (division scalars marks bytes after)
back_half form byte _ scalars marks bytes is follows = elim follows [ ]

back_marked : (form : Form) (byte : ℕ) (sort : Sort) (scalars : List ℕ) (marks : List Mark) (bytes : List ℕ) → Sorted byte sort
    → Follows form (marked_step sort) scalars marks bytes → IsAfter form scalars marks (byte ∷ bytes)
back_marked form byte Space scalars marks bytes is follows = follows byte is
back_marked form byte Return scalars marks bytes is follows = ended_after form [] byte Return scalars marks bytes refl is follows
back_marked form byte Hash scalars marks bytes is follows = ended_after form [] byte Hash scalars marks bytes refl is follows
back_marked form byte _ scalars marks bytes is follows = elim follows [ ]

back_spaced : (form : Form) (byte : ℕ) (sort : Sort) (scalars : List ℕ) (marks : List Mark) (bytes : List ℕ) → Sorted byte sort
    → Follows form (spaced_step sort) scalars marks bytes → Rest form Spaced scalars marks (byte ∷ bytes)
back_spaced form byte Space scalars marks bytes is follows = λ b space. widen form scalars marks (byte ∷ bytes) b space (follows byte is)
back_spaced form byte (Digit digit) scalars marks bytes is follows =
    λ b space. rw is.1 (follows (digit ∷ []) (record { each = (is.0, tt); many = refl; is = refl }) b space)
back_spaced form byte Return scalars marks bytes is follows = λ b space. ended_after form (b ∷ []) byte Return scalars marks bytes (blank-more b [] space refl) is follows
back_spaced form byte Hash scalars marks bytes is follows = λ b space. ended_after form (b ∷ []) byte Hash scalars marks bytes (blank-more b [] space refl) is follows
back_spaced form byte _ scalars marks bytes is follows = elim follows [ ]

back_coded : (form : Form) (byte : ℕ) (sort : Sort) (scalars : List ℕ) (marks : List Mark) (bytes : List ℕ) → Sorted byte sort
    → Follows form (coded_step form sort) scalars marks bytes → IsMarked form scalars marks (byte ∷ bytes)
back_coded form byte Space scalars marks bytes is follows = widen_marked form scalars marks bytes byte is follows
back_coded form byte Lead scalars marks bytes is follows = begun form byte Lead scalars marks bytes is follows
back_coded form byte Exclamation scalars marks bytes is follows = begun form byte Exclamation scalars marks bytes is follows
back_coded form byte Times scalars marks bytes is follows = begun form byte Times scalars marks bytes is follows
back_coded form byte Division scalars marks bytes is follows = begun form byte Division scalars marks bytes is follows
back_coded form byte (Digit digit) scalars marks bytes is follows = begun form byte (Digit digit) scalars marks bytes is follows
back_coded form byte Return scalars marks bytes is follows = begun form byte Return scalars marks bytes is follows
back_coded form byte Hash scalars marks bytes is follows = begun form byte Hash scalars marks bytes is follows
back_coded form byte LineFeed scalars marks bytes is follows = begun form byte LineFeed scalars marks bytes is follows
back_coded form byte Other scalars marks bytes is follows = begun form byte Other scalars marks bytes is follows

no_line_feed : (byte : ℕ) (sort : Sort) → Sorted byte sort → (sort ≡ LineFeed → ⊥) → byte ≢ 10
no_line_feed byte Space is other e = let at : is_space 10 ≡ true = ap is_space (sym e) ∙ is in cc
no_line_feed byte (Digit digit) is other e = grind (arith, nat_tests)
no_line_feed byte LineFeed is other e = other refl
no_line_feed byte Other is other e = is e
no_line_feed byte Lead is other e = omega arith
no_line_feed byte Times is other e = omega arith
no_line_feed byte Division is other e = omega arith
no_line_feed byte Exclamation is other e = omega arith
no_line_feed byte Return is other e = omega arith
no_line_feed byte Hash is other e = omega arith

back_comment : (form : Form) (byte : ℕ) (sort : Sort) (scalars : List ℕ) (marks : List Mark) (bytes : List ℕ) → Sorted byte sort
    → Follows form (comment_step sort) scalars marks bytes → IsComment scalars marks (byte ∷ bytes)
back_comment form byte LineFeed scalars marks bytes is follows = elim follows [ ]
back_comment form byte sort _ _ _ is (comment bytes none) = comment (byte ∷ bytes) (no_line_feed byte sort is (λ e. cc), none)

-- one digit more
token-snoc : (digits : List ℕ) (digit : ℕ) (bytes : List ℕ) → token_bytes (digits ++ digit ∷ []) ++ bytes ≡ token_bytes digits ++ (digit_byte digit ∷ bytes)
token-snoc [] digit bytes = refl
token-snoc (d ∷ digits) digit bytes = ap (λ l. digit_byte d ∷ l) (token-snoc digits digit bytes)

number_behind-snoc : (number : ℕ) (digits : List ℕ) (digit : ℕ) → number_behind number (digits ++ digit ∷ []) ≡ 16 * number_behind number digits + digit
number_behind-snoc number [] digit = refl
number_behind-snoc number (d ∷ digits) digit = number_behind-snoc (16 * number + d) digits digit

number_of-snoc : (digits : List ℕ) (digit : ℕ) → number_of (digits ++ digit ∷ []) ≡ 16 * number_of digits + digit
number_of-snoc [] digit = omega arith
number_of-snoc (d ∷ digits) digit = number_behind-snoc d digits digit

each-snoc : (digits : List ℕ) (digit : ℕ) → AllByRecursion (λ d. d < 16) digits → digit < 16 → AllByRecursion (λ d. d < 16) (digits ++ digit ∷ [])
each-snoc [] digit each small = (small, tt)
each-snoc (d ∷ digits) digit each small = (each.0, each-snoc digits digit each.1 small)

spells-snoc : (digits : List ℕ) (digit count number : ℕ) → Spells digits count number → digit < 16
    → Spells (digits ++ digit ∷ []) (count + 1) (16 * number + digit)
spells-snoc digits digit count number spells small = record {
  each = each-snoc digits digit spells.each small;
  many = omega (arith, length-append digits (digit ∷ []), spells.many);
  is = omega (arith, number_of-snoc digits digit, spells.is);
}

-- digits that spell a scalar are a token
shaped : (digits : List ℕ) (count number : ℕ) → Spells digits count number → IsOpen count number → 4 ≤ count → is_scalar number ≡ true → HasShape digits
shaped [] count number spells o four scalar = absurd (omega (arith, spells.many))
shaped (a ∷ []) count number spells o four scalar = absurd (omega (arith, spells.many))
shaped (a ∷ b ∷ []) count number spells o four scalar = absurd (omega (arith, spells.many))
shaped (a ∷ b ∷ c ∷ []) count number spells o four scalar = absurd (omega (arith, spells.many))
shaped (a ∷ b ∷ c ∷ d ∷ []) count number spells o four scalar =
    elim (or_cases (ltb number 0xD800) (ltb 0xDFFF number) scalar) [
      | inl low ↦ inl (omega (arith, ltb-true number 0xD800 low, spells.is))
      | inr high ↦ inr (omega (arith, ltb-true 0xDFFF number high, spells.is))
    ]
shaped (a ∷ b ∷ c ∷ d ∷ e ∷ []) count number spells o four scalar = λ zero.
    let each = spells.each in
    let small : (b < 16) × (c < 16) × (d < 16) × (e < 16) = (each.1.0, each.1.1.0, each.1.1.1.0, each.1.1.1.1.0) in
    let high : 0x10000 ≤ number = o.five (sym spells.many) in
    omega (arith, spells.is)
shaped (a ∷ b ∷ c ∷ d ∷ e ∷ f ∷ []) count number spells o four scalar =
    let each = spells.each in
    let small : (b < 16) × (c < 16) × (d < 16) × (e < 16) × (f < 16) = (each.1.0, each.1.1.0, each.1.1.1.0, each.1.1.1.1.0, each.1.1.1.1.1.0) in
    let range : (0x100000 ≤ number) × (number < 0x110000) = o.six (sym spells.many) in
    (omega (arith, spells.is), omega (arith, spells.is))
shaped (a ∷ b ∷ c ∷ d ∷ e ∷ f ∷ g ∷ digits) count number spells o four scalar = absurd (omega (arith, spells.many, o.few))

back_digit : (form : Form) (count number byte digit : ℕ) (scalars : List ℕ) (marks : List Mark) (bytes : List ℕ) (takes : Bool)
    → Sorted byte (Digit digit)
    → Follows form (cond takes (On (Digits (count + 1) (16 * number + digit))) Dead) scalars marks bytes
    → Rest form (Digits count number) scalars marks (byte ∷ bytes)
back_digit form count number byte digit scalars marks bytes true is follows = λ digits spells b space.
    rw (is.1, ← token-snoc digits digit bytes) (follows (digits ++ digit ∷ []) (spells-snoc digits digit count number spells is.0) b space)
back_digit form count number byte digit scalars marks bytes false is follows = elim follows [ ]

back_token : (form : Form) (count number byte : ℕ) (scalars : List ℕ) (marks : List Mark) (bytes : List ℕ) → IsOpen count number
    → (leb 4 count && is_scalar number) ≡ true → IsTrue (is_space byte) → ScalarThen form number scalars marks bytes
    → Rest form (Digits count number) scalars marks (byte ∷ bytes)
back_token form count number byte _ _ _ o e is (scalar_then _ _ _ (mark_in blank mark rest scalars marks white has after)) = λ digits spells b space.
    let parts = and_parts (leb 4 count) (is_scalar number) e in
    let token : IsToken digits =
    record { each = spells.each; shape = shaped digits count number spells o (leb-true 4 count parts.0) parts.1 } in
    subst (λ n. IsAfter form (n ∷ scalars) (mark ∷ marks) (b ∷ (token_bytes digits ++ (byte ∷ (blank ++ (mark_bytes mark ++ rest)))))) spells.is
    (more (b ∷ []) digits (byte ∷ blank) mark rest scalars marks (space, refl) token (is, white) has after)

back_scalar : (form : Form) (count number byte : ℕ) (scalars : List ℕ) (marks : List Mark) (bytes : List ℕ) (here : Bool) → IsOpen count number
    → (leb 4 count && is_scalar number) ≡ here → IsTrue (is_space byte)
    → Follows form (cond here (OneScalar number) Dead) scalars marks bytes → Rest form (Digits count number) scalars marks (byte ∷ bytes)
back_scalar form count number byte scalars marks bytes true o e is follows = back_token form count number byte scalars marks bytes o e is follows
back_scalar form count number byte scalars marks bytes false o e is follows = elim follows [ ]

back_digits : (form : Form) (count number byte : ℕ) (sort : Sort) (scalars : List ℕ) (marks : List Mark) (bytes : List ℕ) → IsOpen count number
    → Sorted byte sort → Follows form (digits_step count number sort) scalars marks bytes
    → Rest form (Digits count number) scalars marks (byte ∷ bytes)
back_digits form count number byte (Digit digit) scalars marks bytes o is follows =
    back_digit form count number byte digit scalars marks bytes (takes_digit count number) is follows
back_digits form count number byte Space scalars marks bytes o is follows =
    back_scalar form count number byte scalars marks bytes (leb 4 count && is_scalar number) o refl is follows
back_digits form count number byte _ scalars marks bytes o is follows = elim follows [ ]

-- what may come after a byte, with that byte before it, may come before it
back : (form : Form) (state : State) (byte : ℕ) (sort : Sort) (scalars : List ℕ) (marks : List Mark) (bytes : List ℕ) → IsGood state → Sorted byte sort
    → Follows form (step_of form state sort) scalars marks bytes → Rest form state scalars marks (byte ∷ bytes)
back form Start byte sort scalars marks bytes good is follows = back_start form byte sort scalars marks bytes is follows
back form Half byte sort scalars marks bytes good is follows = back_half form byte sort scalars marks bytes is follows
back form Marked byte sort scalars marks bytes good is follows = back_marked form byte sort scalars marks bytes is follows
back form Spaced byte sort scalars marks bytes good is follows = back_spaced form byte sort scalars marks bytes is follows
back form (Digits count number) byte sort scalars marks bytes good is follows = back_digits form count number byte sort scalars marks bytes good is follows
back form Coded byte sort scalars marks bytes good is follows = back_coded form byte sort scalars marks bytes is follows
back form Comment byte sort scalars marks bytes good is follows = back_comment form byte sort scalars marks bytes is follows
back form Ended byte sort scalars marks bytes good is follows = elim follows [ ]

-- where a line may end, nothing may come
stop : (form : Form) (state : State) → can_end state ≡ true → Rest form state [] [] []
stop form Start can = nothing [] [] refl tt
stop form Half can = absurd (cc)
stop form Marked can = last [] [] refl tt
stop form Spaced can = λ byte space. last (byte ∷ []) [] (blank-more byte [] space refl) tt
stop form (Digits count number) can = absurd (cc)
stop form Coded can = absurd (cc)
stop form Comment can = comment [] tt
stop form Ended can = over

-- what is answered, behind what was read before, may come
record Answers (form : Form) (state : State) (before : List ℕ) (before' : List Mark) (bytes : List ℕ) (value : Option Line) : Type 0 where
  scalars : List ℕ
  marks : List Mark
  is : value ≡ made (before ++ scalars) (before' ++ marks)
  rest : Rest form state scalars marks bytes

-- a run over these bytes, from any state, answers so
abbrev Sound : Form → List ℕ → Type 0
Sound form bytes = (state : State) (place : ℕ) (before : List ℕ) (before' : List Mark) (value : Option Line) → IsGood state
    → run form state place before before' bytes ≡ Ok value → Answers form state before before' bytes value

sound_end : (form : Form) (state : State) (place : ℕ) (before : List ℕ) (before' : List Mark) (value : Option Line) (can : Bool) → can_end state ≡ can
    → cond {A = Result (Option Line) ℕ} can (Ok (made before before')) (Err place) ≡ Ok value → Answers form state before before' [] value
sound_end form state place before before' value true can e = record {
  scalars = [];
  marks = [];
  is = let same : made before before' ≡ value = cc in rw (append-nil before, append-nil before') (sym same);
  rest = stop form state can;
}
sound_end form state place before before' value false can e = absurd (cc)

sound_step : (form : Form) (byte : ℕ) (bytes : List ℕ) → Sound form bytes → (state : State) (place : ℕ) (before : List ℕ) (before' : List Mark)
    (value : Option Line) → IsGood state → (taken : Taken) → step_of form state (sort_of byte) ≡ taken → IsGoodTaken taken
    → run_taken form taken place before before' bytes ≡ Ok value → Answers form state before before' (byte ∷ bytes) value
sound_step form byte bytes rec state place before before' value good Dead is good' e = absurd (cc)
sound_step form byte bytes rec state place before before' value good (On next) is good' e =
    let after = rec next (place + 1) before before' value good' e in
    record {
      scalars = after.scalars;
      marks = after.marks;
      is = after.is;
      rest = back form state byte (sort_of byte) after.scalars after.marks bytes good (sorted byte)
          (subst (λ t. Follows form t after.scalars after.marks bytes) (sym is) after.rest);
    }
sound_step form byte bytes rec state place before before' value good (OneScalar scalar) is good' e =
    let after = rec Coded (place + 1) (before ++ scalar ∷ []) before' value tt e in
    record {
      scalars = scalar ∷ after.scalars;
      marks = after.marks;
      is = after.is ∙ ap (λ l. made l (before' ++ after.marks)) (append_assoc before (scalar ∷ []) after.scalars);
      rest = back form state byte (sort_of byte) (scalar ∷ after.scalars) after.marks bytes good (sorted byte)
          (subst (λ t. Follows form t (scalar ∷ after.scalars) after.marks bytes) (sym is)
          (scalar_then after.scalars after.marks bytes after.rest));
    }
sound_step form byte bytes rec state place before before' value good (OneMark mark) is good' e =
    let after = rec Marked (place + 1) before (before' ++ mark ∷ []) value tt e in
    record {
      scalars = after.scalars;
      marks = mark ∷ after.marks;
      is = after.is ∙ ap (made (before ++ after.scalars)) (append_assoc before' (mark ∷ []) after.marks);
      rest = back form state byte (sort_of byte) after.scalars (mark ∷ after.marks) bytes good (sorted byte)
          (subst (λ t. Follows form t after.scalars (mark ∷ after.marks) bytes) (sym is)
          (mark_then after.scalars after.marks bytes after.rest));
    }

sound_run : (form : Form) (bytes : List ℕ) → Sound form bytes
sound_run form [] = λ state place before before' value good e. sound_end form state place before before' value (can_end state) refl e
sound_run form (byte ∷ bytes) = λ state place before before' value good e.
    sound_step form byte bytes (sound_run form bytes) state place before before' value good (step_of form state (sort_of byte)) refl
    (good_step form state byte (sort_of byte) good (sorted byte)) e

line_of_marked : (form : Form) (scalars : List ℕ) (marks : List Mark) (bytes : List ℕ) → IsMarked form scalars marks bytes
    → IsLine form bytes (made scalars marks)
line_of_marked form _ _ _ (mark_in blank mark rest scalars marks white has after) =
    rw (made-some scalars (mark ∷ marks) (omega (arith, length-after form scalars marks rest after)))
    (line blank mark rest scalars marks white has after)

line_of_start : (form : Form) (scalars : List ℕ) (marks : List Mark) (bytes : List ℕ) → IsStart form scalars marks bytes
    → IsLine form bytes (made scalars marks)
line_of_start form _ _ _ (nothing blank end white e) = no_line blank end white e
line_of_start form _ _ _ (something scalars marks bytes m) = line_of_marked form scalars marks bytes m

-- what the reader answers, the grammar relates to the bytes
pub sound : (form : Form) (bytes : List ℕ) (value : Option Line) → run_line form bytes ≡ Ok value → IsLine form bytes value
sound form bytes value e =
    let answers = sound_run form bytes Start 0 [] [] value tt e in
    rw answers.is (line_of_start form answers.scalars answers.marks bytes answers.rest)
