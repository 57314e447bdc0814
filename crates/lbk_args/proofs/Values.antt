-- What the typed getters of the matches read is what the definitions read of the rows.
use Rattle.std.proofs.Common.{◌≡◌, ◌^◌, ℕ, Bool, true, false, List, [], ◌∷◌, length, Option, Some, None, Result, Ok}
use Rattle.std.proofs.Common.{Err, refl, sym, nat_lt, lt-ltb, ltb-true, codes}
use Rattle.std.specs.Option.{unwrap_or}
use Rattle.std.specs.Result.{result_unwrap_or}
use Rattle.std.specs.List.{list_all}
use Rattle.std.specs.Char.{digit_value}
use Rattle.std.specs.Str.{bytes_eq}
use Rattle.std.specs.Str.Parse.{AllDigits, ParsesUnsigned, ParsesBool, digits_value, without_leading_plus}
use Rattle.std.proofs.lemmas.Slice.Eq.{bytes_eq-Decides}
use Rattle.clap.specs.Words.{ReadsOne, Text}
use Rattle.clap.proofs.WalkLemmas.{both}
use Rattle.lbk_args.specs.Numbers.{is_number, number_or}
use Rattle.lbk_args.specs.Task.{is_true}

digits_pass : (ds : List ℕ) → AllDigits 10 ds → list_all (λ d. nat_lt (digit_value d) 10) ds ≡ true
digits_pass [] h = refl
digits_pass (d ∷ ds) h = rw (lt-ltb (digit_value d) 10 h.0) (digits_pass ds h.1)

digits_from : (ds : List ℕ) → list_all (λ d. nat_lt (digit_value d) 10) ds ≡ true → AllDigits 10 ds
digits_from [] e = tt
digits_from (d ∷ ds) e =
    let parts = both _ _ e in
    (ltb-true _ _ parts.0, digits_from ds parts.1)

pub number_parsed : (E : Type 0) (other : ℕ) (text : Text) (n : ℕ) → ParsesUnsigned {E = E} 32 10 text (Ok n)
    → n ≡ number_or other (Some text)
number_parsed E other text n h =
    let ds = without_leading_plus text in
    rw (lt-ltb 0 (length ds) h.0.0.0, digits_pass ds h.0.0.1, lt-ltb (digits_value 10 ds) (2 ^ 32) h.0.1) h.1

number_refused : (E : Type 0) (other : ℕ) (text : Text) (e : E) → ParsesUnsigned {E = E} 32 10 text (Err e)
    → other ≡ number_or other (Some text)
number_refused E other text e h = go (is_number text) refl
  where
    go : (b : Bool) → is_number text ≡ b → other ≡ number_or other (Some text)
    go false t = rw t refl
    go true t =
        let outer = both _ _ t in
        let inner = both _ _ outer.0 in
        absurd (h ((ltb-true _ _ inner.0, digits_from (without_leading_plus text) inner.1), ltb-true _ _ outer.1))

-- the number that a text tells, or the other
pub number_told : (E : Type 0) (other : ℕ) (text : Text) (r : Result ℕ E) → ParsesUnsigned {E = E} 32 10 text r
    → result_unwrap_or r other ≡ number_or other (Some text)
number_told E other text (Ok n) h = number_parsed E other text n h
number_told E other text (Err e) h = number_refused E other text e h

-- a number, or the other where there is none
pub number_read : {E : Type 0} (gives : Text → Result ℕ E → Type 0) (other : ℕ) (found : Option Text) (r : Option ℕ)
    → ((t : Text) (x : Result ℕ E) → gives t x → ParsesUnsigned {E = E} 32 10 t x)
    → (found ≡ None → r ≡ None) → ((t : Text) → found ≡ Some t → ReadsOne gives t r)
    → unwrap_or r other ≡ number_or other found
number_read {E} gives other None r parses none some = rw (none refl) refl
number_read {E} gives other (Some text) (Some n) parses none some =
    number_parsed E other text n (parses text (Ok n) (some text refl))
number_read {E} gives other (Some text) None parses none some =
    let failed = some text refl in
    number_refused E other text failed.0 (parses text (Err failed.0) failed.1)

-- a flag, which is not set where there is no text
pub flag_read : {E : Type 0} (gives : Text → Result Bool E → Type 0) (found : Option Text) (r : Option Bool)
    → ((t : Text) (x : Result Bool E) → gives t x → ParsesBool {E = E} t x)
    → (found ≡ None → r ≡ None) → ((t : Text) → found ≡ Some t → ReadsOne gives t r) → unwrap_or r false ≡ is_true found
flag_read {E} gives None r parses none some = rw (none refl) refl
flag_read {E} gives (Some text) (Some true) parses none some =
    let read : text ≡ codes "true" = parses text (Ok true) (some text refl) in
    rw read refl
flag_read {E} gives (Some text) (Some false) parses none some =
    let read : text ≡ codes "false" = parses text (Ok false) (some text refl) in
    rw read refl
flag_read {E} gives (Some text) None parses none some = go (bytes_eq text (codes "true")) refl
  where
    go : (b : Bool) → bytes_eq text (codes "true") ≡ b → false ≡ bytes_eq text (codes "true")
    go false e = sym e
    go true e =
        let failed = some text refl in
        absurd ((parses text (Err failed.0) failed.1).0 ((bytes_eq-Decides text (codes "true")).0 e))
