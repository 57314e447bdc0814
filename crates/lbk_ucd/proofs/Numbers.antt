-- Numbers that a text begins with, and what stands after them.
use Rattle.std.proofs.Common.{◌≡◌, ℕ, Bool, zero, suc, ◌==◌, ◌&&◌, ◌+◌, ◌<◌, ◌≤◌, Option, Some, None, MatchOption, inl, inr, true, false, cond, List, [], ◌∷◌, ◌++◌, length, get_or, take, drop, drop_of_length-le, refl, sym, ap, subst, ◌∙◌, arith, eqb-true}
use Rattle.std.specs.Char.{IsNotAsciiDigit, digit_value}
use Rattle.std.specs.Str.{IsAscii}
use Rattle.std.specs.Str.Parse.{AllDigits, IsNumeral, digits_value, without_leading_plus}
use Rattle.std.proofs.lemmas.Str.Parse.{digit_from_value}
use Rattle.bstr.specs.Find.{FindsNeedle, OccursAt}
use Rattle.lbk_ucd.specs.declared.which.Which.{Which}
use Rattle.lbk_ucd.specs.declared.published.Version.{Version}
use Rattle.lbk_ucd.specs.declared.published.ClaimCause.{ClaimCause}
use Rattle.lbk_ucd.specs.declared.published.ClaimCause.TheVariants.{Title, Version as Named, Changed}
use Rattle.lbk_ucd.specs.Published.{BeginsWithNumber, BeginsWithVersion, BeginsWithoutDigit, EndsVersion, IsClaimCause, NamesVersion, name_before_version, rules_version, words_before_version}

no-digit : (c : ℕ) → digit_value c < 10 → IsNotAsciiDigit c → ⊥
no-digit c digit (inl below) = let range = digit_from_value c digit in omega (arith, range.0, below)
no-digit c digit (inr above) = let range = digit_from_value c digit in omega (arith, range.1, above)

-- one digit more
pub more-digits : (text : List ℕ) (len : ℕ) → len < length text → digit_value (get_or text len 0) < 10
    → AllDigits 10 (take len text) → AllDigits 10 (take (suc len) text)
more-digits [] len few digit all = absurd (omega (arith, few))
more-digits (c ∷ cs) zero few digit all = (digit, tt)
more-digits (c ∷ cs) (suc len) few digit all = (all.0, more-digits cs len (omega (arith, few)) digit all.1)

-- no digit stands at this place, or the text ends there
pub without-digit-at : (text : List ℕ) (len : ℕ) → len < length text → IsNotAsciiDigit (get_or text len 0) → BeginsWithoutDigit (drop len text)
without-digit-at [] len few other = absurd (omega (arith, few))
without-digit-at (c ∷ cs) zero few other = other
without-digit-at (c ∷ cs) (suc len) few other = without-digit-at cs len (omega (arith, few)) other

pub without-digit-end : (text : List ℕ) (len : ℕ) → length text ≤ len → BeginsWithoutDigit (drop len text)
without-digit-end text len all = rw (drop_of_length-le text all) tt

-- a text has one number at its front
same-digits : (ds rest es others : List ℕ) → AllDigits 10 ds → BeginsWithoutDigit rest → AllDigits 10 es → BeginsWithoutDigit others
    → ds ++ rest ≡ es ++ others → (ds ≡ es) × (rest ≡ others)
same-digits [] rest [] others all other more another same = (refl, same)
same-digits [] rest (e ∷ es) others all other more another same = absurd (no-digit e more.0 (subst BeginsWithoutDigit same other))
same-digits (d ∷ ds) rest [] others all other more another same = absurd (no-digit d all.0 (subst BeginsWithoutDigit (sym same) another))
same-digits (d ∷ ds) rest (e ∷ es) others all other more another same =
    let first : d ≡ e = cc in
    let tails : ds ++ rest ≡ es ++ others = cc in
    let further = same-digits ds rest es others all.1 other more.1 another tails in
    (cc, further.1)

pub same-number : (text rest others : List ℕ) (n m : ℕ) → BeginsWithNumber text n rest → BeginsWithNumber text m others → (n ≡ m) × (rest ≡ others)
same-number text rest others n m (ds, is, without, numeral, value, few) (es, is', without', numeral', value', few') =
    let same = same-digits ds rest es others numeral.1 without numeral'.1 without' (sym is ∙ is') in
    (value ∙ ap (digits_value 10) same.0 ∙ sym value', same.1)

-- digits are the digits of each number at the front
pub digits-are : (text ds rest others : List ℕ) (n : ℕ) → text ≡ ds ++ rest → AllDigits 10 ds → BeginsWithoutDigit rest → BeginsWithNumber text n others
    → IsNumeral 10 ds × (digits_value 10 ds < 4294967296)
digits-are text ds rest others n is all without (es, is', without', numeral', value', few') =
    let same = same-digits ds rest es others all without numeral'.1 without' (sym is ∙ is') in
    rw same.0 (numeral', subst (λ k. k < 4294967296) value' few')

-- digits have no sign, and are ASCII
pub no-plus : (ds : List ℕ) → AllDigits 10 ds → without_leading_plus ds ≡ ds
no-plus [] all = refl
no-plus (c ∷ cs) all =
    elim (c == 43) as (λ x. c == 43 ≡ x → drop (cond x 1 0) (c ∷ cs) ≡ c ∷ cs) [
      | false ↦ λ _. refl
      | true ↦ λ e. absurd (let plus : c ≡ 43 = eqb-true c 43 e in let range = digit_from_value c all.0 in omega (arith, plus, range.0))
    ] refl

pub ascii : (ds : List ℕ) → AllDigits 10 ds → IsAscii ds
ascii [] all i = omega arith
ascii (c ∷ cs) all zero = let range = digit_from_value c all.0 in omega (arith, range.1)
ascii (c ∷ cs) all (suc i) = ascii cs all.1 i

-- no version stands at the front of a text: no first number, no dot after it, or no second number
abbrev HasNumber : List ℕ → Type 0
HasNumber text = (number : ℕ) × (rest : List ℕ) × BeginsWithNumber text number rest

abbrev HasVersion : List ℕ → Type 0
HasVersion text = (version : Version) × BeginsWithVersion text version

pub no-major : (text : List ℕ) → ¬ (HasNumber text) → ¬ (HasVersion text)
no-major text none (v, (rest, begins, more)) = none (v.major, 46 ∷ rest, begins)

pub no-dot : (text left : List ℕ) (n : ℕ) → BeginsWithNumber text n left → ¬ ((rest : List ℕ) × (left ≡ 46 ∷ rest)) → ¬ (HasVersion text)
no-dot text left n here none (v, (rest, begins, more)) = none (rest, (same-number text left (46 ∷ rest) n v.major here begins).1)

pub no-minor : (text left after : List ℕ) (n : ℕ) → BeginsWithNumber text n left → left ≡ 46 ∷ after → ¬ (HasNumber after) → ¬ (HasVersion text)
no-minor text left after n here dot none (v, (rest, begins, (others, minor, ends))) =
    let same : left ≡ 46 ∷ rest = (same-number text left (46 ∷ rest) n v.major here begins).1 in
    let tail : rest ≡ after = cc in
    none (v.minor, others, subst (λ l. BeginsWithNumber l v.minor others) tail minor)

-- words stand first at one place
pub no-words : (hay needle : List ℕ) (at : ℕ) → FindsNeedle hay needle 0 None → FindsNeedle hay needle 0 (Some at) → ⊥
no-words hay needle at none found = none at (omega arith) (omega (arith, found.1.fits)) found.1

same-place : (hay needle : List ℕ) (a b : ℕ) → FindsNeedle hay needle 0 (Some a) → FindsNeedle hay needle 0 (Some b) → a ≡ b
same-place hay needle a b first second =
    let before : ¬ (a < b) = λ few. second.0.before a (omega arith) few first.1 in
    let after : ¬ (b < a) = λ few. first.0.before b (omega arith) few second.1 in
    omega (arith, before, after)

-- the version after these words is the one that the file names
pub in-file : (which : Which) (bytes : List ℕ) (at : ℕ) (result : Option Version) → OccursAt bytes (name_before_version which) 0
    → FindsNeedle bytes (words_before_version which) 0 (Some at)
    → MatchOption result (¬ (HasVersion (drop (at + length (words_before_version which)) bytes)))
    (BeginsWithVersion (drop (at + length (words_before_version which)) bytes))
    → MatchOption result (¬ ((version : Version) × NamesVersion which bytes version)) (NamesVersion which bytes)
in-file which bytes at None begins found none = λ named.
    let told = named.1.told in
    let same = same-place bytes (words_before_version which) told.0 at told.1 found in
    none (named.0, subst (λ n. BeginsWithVersion (drop (n + length (words_before_version which)) bytes) named.0) same told.2)
in-file which bytes at (Some v) begins found is = record { begins = begins; told = (at, found, is) }

and-left : (a b : Bool) → a && b ≡ true → a ≡ true
and-left true b same = refl
and-left false b same = absurd (cc same)

and-right : (a b : Bool) → a && b ≡ true → b ≡ true
and-right true b same = same
and-right false b same = absurd (cc same)

-- the version of the rules, by its numbers
pub is-rules : (v : Version) → (v.major == 15) && ((v.minor == 0) && (v.update == 0)) ≡ true → v ≡ rules_version
is-rules v same =
    let others = and-right (v.major == 15) ((v.minor == 0) && (v.update == 0)) same in
    ap (λ n. record { major = n; minor = v.minor; update = v.update }) (eqb-true v.major 15 (and-left (v.major == 15) _ same))
    ∙ ap (λ n. record { major = 15; minor = n; update = v.update }) (eqb-true v.minor 0 (and-left (v.minor == 0) _ others))
    ∙ ap (λ n. record { major = 15; minor = 0; update = n }) (eqb-true v.update 0 (and-right (v.minor == 0) _ others))

-- a file names one version
same-update : (text : List ℕ) (n m : ℕ) → EndsVersion text n → EndsVersion text m → n ≡ m
same-update text n m (inl (rest, after, dot, begins)) (inl (rest', after', dot', begins')) =
    let same : rest' ≡ rest = cc in
    (same-number rest after after' n m begins (subst (λ l. BeginsWithNumber l m after') same begins')).0
same-update text n m (inl (rest, after, dot, begins)) (inr (zero', none)) = absurd (none (n, rest, after, dot, begins))
same-update text n m (inr (zero', none)) (inl (rest, after, dot, begins)) = absurd (none (m, rest, after, dot, begins))
same-update text n m (inr first) (inr second) = first.0 ∙ sym second.0

same-numbers : (v w : Version) → v.major ≡ w.major → v.minor ≡ w.minor → v.update ≡ w.update → v ≡ w
same-numbers v w major minor update i = record { major = major i; minor = minor i; update = update i }

same-begin : (text : List ℕ) (v w : Version) → BeginsWithVersion text v → BeginsWithVersion text w → v ≡ w
same-begin text v w (rest, major, (after, minor, ends)) (rest', major', (after', minor', ends')) =
    let first = same-number text (46 ∷ rest) (46 ∷ rest') v.major w.major major major' in
    let tail : rest' ≡ rest = cc in
    let second = same-number rest after after' v.minor w.minor minor (subst (λ l. BeginsWithNumber l w.minor after') tail minor') in
    same-numbers v w first.0 second.0 (same-update after v.update w.update ends (subst (λ l. EndsVersion l w.update) (sym second.1) ends'))

same-version : (which : Which) (bytes : List ℕ) (v w : Version) → NamesVersion which bytes v → NamesVersion which bytes w → v ≡ w
same-version which bytes v w first second =
    let words = words_before_version which in
    let at = same-place bytes words second.told.0 first.told.0 second.told.1 first.told.1 in
    same-begin (drop (first.told.0 + length words) bytes) v w first.told.2
    (subst (λ n. BeginsWithVersion (drop (n + length words) bytes) w) at second.told.2)

-- a refused file has one cause
pub one-cause : (which : Which) (bytes : List ℕ) (cause other : ClaimCause) → IsClaimCause which bytes cause → IsClaimCause which bytes other → cause ≡ other
one-cause which bytes Title Title first second = refl
one-cause which bytes Title (Named v) first second = absurd (first.1 (v, second.1.0))
one-cause which bytes Title Changed first second = absurd (first.1 (rules_version, second.1))
one-cause which bytes (Named v) Title first second = absurd (second.1 (v, first.1.0))
one-cause which bytes (Named v) (Named w) first second = ap Named (same-version which bytes v w first.1.0 second.1.0)
one-cause which bytes (Named v) Changed first second = absurd (first.1.1 (same-version which bytes v rules_version first.1.0 second.1))
one-cause which bytes Changed Title first second = absurd (second.1 (rules_version, first.1))
one-cause which bytes Changed (Named w) first second = absurd (second.1.1 (same-version which bytes w rules_version second.1.0 first.1))
one-cause which bytes Changed Changed first second = refl
