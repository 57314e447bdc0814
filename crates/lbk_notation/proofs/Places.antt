-- Where the reader goes wrong, a line stops being the beginning of any line of the grammar.
use Rattle.std.proofs.Common.{◌≡◌, ℕ, zero, suc, ◌+◌, ◌*◌, ◌<◌, ◌≤◌, Bool, true, false, ltb, leb, cond, List, [], ◌∷◌, ◌++◌, length, take, Option, Result, Ok, Err, refl, ap, ◌∙◌, arith, add-one, lit<}
use Rattle.std.proofs.lemmas.Bool.{or_right, or_parts, le-leb, lt-ltb, ltb-false}
use Rattle.lbk_notation.specs.declared.marks.Form.{Form}
use Rattle.lbk_notation.specs.declared.marks.Mark.{Mark}
use Rattle.lbk_notation.specs.declared.marks.Mark.TheVariants.{No}
use Rattle.lbk_notation.specs.declared.reader.State.{State}
use Rattle.lbk_notation.specs.declared.reader.State.TheVariants.{Start, Half, Marked, Spaced, Digits, Coded, Comment, Ended}
use Rattle.lbk_notation.specs.declared.reader.Taken.{Taken}
use Rattle.lbk_notation.specs.declared.reader.Taken.TheVariants.{Dead, On, OneScalar, OneMark}
use Rattle.lbk_notation.specs.TestLine.{Line, made}
use Rattle.lbk_notation.specs.Place.{IsBytes, IsViable, IsOutside, IsPlace}
use Rattle.lbk_notation.specs.Run.{IsGood, IsOpen, step_of, sort_of, takes_digit, is_scalar, can_end, run, run_line}
use Rattle.lbk_notation.proofs.Completes.{Gives, take_byte, token_off, digit_on, marked, complete}
use Rattle.lbk_notation.proofs.Runs.{IsGoodTaken, run_taken, run_step, good_step}
use Rattle.lbk_notation.proofs.Sorts.{sorted, sign-sorts}
use Rattle.lbk_notation.proofs.Sound.{sound}

-- bytes with which a line may end, from a state
record Goes (form : Form) (state : State) (scalars : List ℕ) (marks : List Mark) (bytes : List ℕ) : Type 0 where
  more : List ℕ
  bytes_more : IsBytes more
  value : Option Line
  gives : Gives form state scalars marks (bytes ++ more) value

goes_end : (form : Form) (state : State) (scalars : List ℕ) (marks : List Mark) → can_end state ≡ true → Goes form state scalars marks []
goes_end form state scalars marks can = record {
  more = [];
  bytes_more = tt;
  value = made scalars marks;
  gives = λ place. ap (λ c. cond {A = Result (Option Line) ℕ} c (Ok (made scalars marks)) (Err place)) can;
}

goes_coded : (form : Form) (scalars : List ℕ) (marks : List Mark) → Goes form Coded scalars marks []
goes_coded form scalars marks = record {
  more = 0xC3 ∷ 0x97 ∷ [];
  bytes_more = (lit< tt, (lit< tt, tt));
  value = made scalars (marks ++ No ∷ []);
  gives = marked form Coded scalars marks No [] (made scalars (marks ++ No ∷ [])) refl refl tt (λ place. refl);
}

-- digits that are a token
goes_token : (form : Form) (count number : ℕ) (scalars : List ℕ) (marks : List Mark) → leb 4 count ≡ true → is_scalar number ≡ true
    → Goes form (Digits count number) scalars marks []
goes_token form count number scalars marks four scalar =
    let on = goes_coded form (scalars ++ number ∷ []) marks in
    record {
      more = 32 ∷ on.more;
      bytes_more = (lit< tt, on.bytes_more);
      value = on.value;
      gives = token_off form count number scalars marks (32 ∷ []) on.more on.value four scalar (refl, refl) on.gives;
    }

-- digits that a 0 may follow
goes_digit : (form : Form) (count number : ℕ) (scalars : List ℕ) (marks : List Mark) → takes_digit count number ≡ true
    → Goes form (Digits (count + 1) (16 * number + 0)) scalars marks [] → Goes form (Digits count number) scalars marks []
goes_digit form count number scalars marks takes on = record {
  more = 48 ∷ on.more;
  bytes_more = (lit< tt, on.bytes_more);
  value = on.value;
  gives = digit_on form count number 0 scalars marks on.more on.value (lit< tt) takes on.gives;
}

high_scalar : (number : ℕ) → 0x10000 ≤ number → is_scalar number ≡ true
high_scalar number high = or_right (ltb number 0xD800) (ltb 0xDFFF number) (lt-ltb 0xDFFF number (omega arith))

goes_four : (form : Form) (number : ℕ) (scalars : List ℕ) (marks : List Mark) (here : Bool) → is_scalar number ≡ here
    → Goes form (Digits 4 number) scalars marks []
goes_four form number scalars marks true e = goes_token form 4 number scalars marks refl e
goes_four form number scalars marks false e =
    let parts = or_parts (ltb number 0xD800) (ltb 0xDFFF number) e in
    let high : 0xD800 ≤ number = ltb-false number 0xD800 parts.0 in
    goes_digit form 4 number scalars marks (le-leb 0x1000 number (omega arith))
    (goes_token form 5 (16 * number + 0) scalars marks refl (high_scalar (16 * number + 0) (omega arith)))

goes_three : (form : Form) (number : ℕ) (scalars : List ℕ) (marks : List Mark) → Goes form (Digits 3 number) scalars marks []
goes_three form number scalars marks =
    goes_digit form 3 number scalars marks refl (goes_four form (16 * number + 0) scalars marks (is_scalar (16 * number + 0)) refl)

goes_two : (form : Form) (number : ℕ) (scalars : List ℕ) (marks : List Mark) → Goes form (Digits 2 number) scalars marks []
goes_two form number scalars marks = goes_digit form 2 number scalars marks refl (goes_three form (16 * number + 0) scalars marks)

goes_one : (form : Form) (number : ℕ) (scalars : List ℕ) (marks : List Mark) → Goes form (Digits 1 number) scalars marks []
goes_one form number scalars marks = goes_digit form 1 number scalars marks refl (goes_two form (16 * number + 0) scalars marks)

goes_digits : (form : Form) (count number : ℕ) (scalars : List ℕ) (marks : List Mark) → IsOpen count number
    → Goes form (Digits count number) scalars marks []
goes_digits form zero number scalars marks o =
    goes_digit form 0 number scalars marks refl (goes_one form (16 * number + 0) scalars marks)
goes_digits form (suc zero) number scalars marks o = goes_one form number scalars marks
goes_digits form (suc (suc zero)) number scalars marks o = goes_two form number scalars marks
goes_digits form (suc (suc (suc zero))) number scalars marks o = goes_three form number scalars marks
goes_digits form (suc (suc (suc (suc zero)))) number scalars marks o = goes_four form number scalars marks (is_scalar number) refl
goes_digits form (suc (suc (suc (suc (suc zero))))) number scalars marks o =
    goes_token form 5 number scalars marks refl (high_scalar number (o.five refl))
goes_digits form (suc (suc (suc (suc (suc (suc zero)))))) number scalars marks o =
    let range : (0x100000 ≤ number) × (number < 0x110000) = o.six refl in
    goes_token form 6 number scalars marks refl (high_scalar number (omega arith))
goes_digits form (suc (suc (suc (suc (suc (suc (suc count))))))) number scalars marks o = absurd (omega (arith, o.few))

-- from every state that a line leads to, some line goes on
goes : (form : Form) (state : State) (scalars : List ℕ) (marks : List Mark) → IsGood state → Goes form state scalars marks []
goes form Half scalars marks good = record {
  more = 0x97 ∷ [];
  bytes_more = (lit< tt, tt);
  value = made scalars (marks ++ No ∷ []);
  gives = take_byte form Half (OneMark No) scalars marks 0x97 [] (made scalars (marks ++ No ∷ [])) (ap (step_of form Half) sign-sorts.times) (λ place. refl);
}
goes form (Digits count number) scalars marks good = goes_digits form count number scalars marks good
goes form Coded scalars marks good = goes_coded form scalars marks
goes form Start scalars marks good = goes_end form Start scalars marks refl
goes form Marked scalars marks good = goes_end form Marked scalars marks refl
goes form Spaced scalars marks good = goes_end form Spaced scalars marks refl
goes form Comment scalars marks good = goes_end form Comment scalars marks refl
goes form Ended scalars marks good = goes_end form Ended scalars marks refl

-- a byte before
goes_byte : (form : Form) (state : State) (taken : Taken) (next : State) (scalars scalars' : List ℕ) (marks marks' : List Mark) (byte : ℕ) (bytes : List ℕ)
    → step_of form state (sort_of byte) ≡ taken
    → ((place : ℕ) (rest : List ℕ) → run_taken form taken place scalars marks rest ≡ run form next (place + 1) scalars' marks' rest)
    → Goes form next scalars' marks' bytes → Goes form state scalars marks (byte ∷ bytes)
goes_byte form state taken next scalars scalars' marks marks' byte bytes e same on = record {
  more = on.more;
  bytes_more = on.bytes_more;
  value = on.value;
  gives = take_byte form state taken scalars marks byte (bytes ++ on.more) on.value e
      (λ place. same place (bytes ++ on.more) ∙ on.gives (place + 1));
}

-- the run fails at k
record Fails (form : Form) (state : State) (place : ℕ) (scalars : List ℕ) (marks : List Mark) (bytes : List ℕ) (k : ℕ) : Type 0 where
  from : place ≤ k
  within : k ≤ place + length bytes
  before : (j : ℕ) → place + j < k → Goes form state scalars marks (take (suc j) bytes)
  here : k < place + length bytes → (j : ℕ) → place + j ≡ k → (more : List ℕ)
      → run form state place scalars marks (take (suc j) bytes ++ more) ≡ Err k

abbrev Failing : Form → List ℕ → Type 0
Failing form bytes = (state : State) (place : ℕ) (scalars : List ℕ) (marks : List Mark) (k : ℕ) → IsGood state
    → run form state place scalars marks bytes ≡ Err k → Fails form state place scalars marks bytes k

fails_end : (form : Form) (state : State) (place : ℕ) (scalars : List ℕ) (marks : List Mark) (k : ℕ) (can : Bool)
    → cond {A = Result (Option Line) ℕ} can (Ok (made scalars marks)) (Err place) ≡ Err k → Fails form state place scalars marks [] k
fails_end form state place scalars marks k true e = absurd (cc)
fails_end form state place scalars marks k false e =
    let same : place ≡ k = cc in
    record {
      from = omega arith;
      within = omega arith;
      before = λ j lt. absurd (omega arith);
      here = λ lt j is more. absurd (omega arith);
    }

-- a byte that leads to a state
fails_on : (form : Form) (byte : ℕ) (bytes : List ℕ) → Failing form bytes → (state : State) (place : ℕ) (scalars scalars' : List ℕ) (marks marks' : List Mark)
    (k : ℕ) (taken : Taken) (next : State) → step_of form state (sort_of byte) ≡ taken
    → ((p : ℕ) (rest : List ℕ) → run_taken form taken p scalars marks rest ≡ run form next (p + 1) scalars' marks' rest)
    → IsGood next → run form next (place + 1) scalars' marks' bytes ≡ Err k → Fails form state place scalars marks (byte ∷ bytes) k
fails_on form byte bytes rec state place scalars scalars' marks marks' k taken next e same good runs =
    let after = rec next (place + 1) scalars' marks' k good runs in
    record {
      from = omega (arith, after.from);
      within = omega (arith, after.within);
      before = before after;
      here = here after;
    }
  where
    before : Fails form next (place + 1) scalars' marks' bytes k → (j : ℕ) → place + j < k → Goes form state scalars marks (take (suc j) (byte ∷ bytes))
    before after zero lt = goes_byte form state taken next scalars scalars' marks marks' byte [] e same (goes form next scalars' marks' good)
    before after (suc j) lt =
        goes_byte form state taken next scalars scalars' marks marks' byte (take (suc j) bytes) e same (after.before j (omega arith))

    here : Fails form next (place + 1) scalars' marks' bytes k → k < place + length (byte ∷ bytes) → (j : ℕ) → place + j ≡ k → (more : List ℕ)
        → run form state place scalars marks (take (suc j) (byte ∷ bytes) ++ more) ≡ Err k
    here after lt zero is more = absurd (omega (arith, after.from))
    here after lt (suc j) is more =
        run_step form state place scalars marks byte (take (suc j) bytes ++ more) taken e
        ∙ same place (take (suc j) bytes ++ more) ∙ after.here (omega arith) j (omega arith) more

fails_step : (form : Form) (byte : ℕ) (bytes : List ℕ) → Failing form bytes → (state : State) (place : ℕ) (scalars : List ℕ) (marks : List Mark)
    (k : ℕ) (taken : Taken) → step_of form state (sort_of byte) ≡ taken → IsGoodTaken taken
    → run_taken form taken place scalars marks bytes ≡ Err k → Fails form state place scalars marks (byte ∷ bytes) k
fails_step form byte bytes rec state place scalars marks k Dead e good runs =
    let same : place ≡ k = cc in
    record {
      from = omega arith;
      within = omega arith;
      before = λ j lt. absurd (omega arith);
      here = λ lt j is more. run_step form state place scalars marks byte (take j bytes ++ more) Dead e ∙ runs;
    }
fails_step form byte bytes rec state place scalars marks k (On next) e good runs =
    fails_on form byte bytes rec state place scalars scalars marks marks k (On next) next e (λ p rest. refl) good runs
fails_step form byte bytes rec state place scalars marks k (OneScalar scalar) e good runs =
    fails_on form byte bytes rec state place scalars (scalars ++ scalar ∷ []) marks marks k (OneScalar scalar) Coded e (λ p rest. refl) tt runs
fails_step form byte bytes rec state place scalars marks k (OneMark mark) e good runs =
    fails_on form byte bytes rec state place scalars scalars marks (marks ++ mark ∷ []) k (OneMark mark) Marked e (λ p rest. refl) tt runs

fails : (form : Form) (bytes : List ℕ) → Failing form bytes
fails form [] = λ state place scalars marks k good e. fails_end form state place scalars marks k (can_end state) e
fails form (byte ∷ bytes) = λ state place scalars marks k good e.
    fails_step form byte bytes (fails form bytes) state place scalars marks k (step_of form state (sort_of byte)) refl
    (good_step form state byte (sort_of byte) good (sorted byte)) e

-- bytes that the reader refuses are outside the grammar
pub outside : (form : Form) (bytes : List ℕ) (k : ℕ) → run_line form bytes ≡ Err k → IsOutside form bytes
outside form bytes k e = λ value is. let ok = complete form bytes value is in cc

-- and go wrong where it says
pub placed : (form : Form) (bytes : List ℕ) (k : ℕ) → run_line form bytes ≡ Err k → IsPlace form bytes k
placed form bytes k e =
    let failed = fails form bytes Start 0 [] [] k tt e in
    record {
      within = omega (arith, failed.within);
      before = λ j lt. rw add-one (viable (failed.before j (omega arith)));
      here = λ lt viable. refuse failed lt viable;
    }
  where
    viable : {bytes : List ℕ} → Goes form Start [] [] bytes → IsViable form bytes
    viable {bytes} on = (on.more, on.bytes_more, on.value, sound form (bytes ++ on.more) on.value (on.gives 0))

    refuse : Fails form Start 0 [] [] bytes k → k < length bytes → IsViable form (take (k + 1) bytes) → ⊥
    refuse failed lt (more, is_bytes, value, is) =
        let ok : run_line form (take (suc k) bytes ++ more) ≡ Ok value = rw add-one at (complete form (take (k + 1) bytes ++ more) value is) in
        let err : run_line form (take (suc k) bytes ++ more) ≡ Err k = failed.here (omega arith) k (omega arith) more in
        cc
