-- A numeral behind `--limit`, as it is read.
use Rattle.std.proofs.Common.{◌≡◌, ◌≢◌, ◌∙◌, ◌*◌, ◌+◌, ◌-◌, ◌<◌, ◌≤◌, ◌^◌, ℕ, zero, suc, false, [], ◌∷◌, Some, get_or, ap, length, min, sym, subst, arith, lit≤}
use Rattle.std.specs.Char.{digit_value}
use Rattle.std.specs.Fmt.{decimal}
use Rattle.std.specs.Str.Parse.{AllDigits, IsNumeral, digits_value, without_leading_plus}
use Rattle.std.proofs.lemmas.Fmt.{decimal_is_IsNumeral}
use Rattle.std.proofs.lemmas.Str.Parse.{digit_from_value, without_leading_plus_none}
use Rattle.std.proofs.Math.Nat.{min-eq_left}
use Rattle.clap.specs.Words.{Text}
use Rattle.clap.specs.Kinds.{value_kinds}
use Rattle.clap.specs.declared.builder.value_parser.ValueParser.TheVariants.{Unsigned}
use Rattle.clap.proofs.KindLemmas.{value_kinds-ok}
use Rattle.lbk_feed.specs.Text.{greatest_limit}
use Rattle.lbk_args.specs.PlainWords.{IsPlainName}
use Rattle.lbk_args.specs.Command.{greatest_byte}
use Rattle.lbk_args.specs.Numbers.{bytes_or, last_of, number_or, unit_of}
use Rattle.lbk_args.proofs.Units.{no_letter}
use Rattle.lbk_args.proofs.Values.{number_parsed}

numeral_plain : (ds : Text) → IsNumeral 10 ds → IsPlainName ds
numeral_plain [] numeral = absurd (omega (arith, numeral.0))
numeral_plain (c ∷ cs) numeral = λ e. let digit = digit_from_value c numeral.1.0 in absurd (omega (arith, digit.0, e))

no_plus : (ds : Text) → IsNumeral 10 ds → get_or ds 0 0 ≢ 43
no_plus [] numeral = absurd (omega (arith, numeral.0))
no_plus (c ∷ cs) numeral = λ e. let digit = digit_from_value c numeral.1.0 in absurd (omega (arith, digit.0, e))

-- the numeral is n's, with or without a plus before it
record Writes (n : ℕ) (ds : Text) : Type 0 where
  numeral : IsNumeral 10 ds
  value : digits_value 10 ds ≡ n

writes : (n : ℕ) → n ≤ greatest_limit → Writes n (without_leading_plus (decimal n))
writes n most =
    let small : n < 2 ^ 64 = omega (arith, lit≤ {m = greatest_limit + 1} {n = 2 ^ 64} tt) in
    let it = decimal_is_IsNumeral n small in
    subst (Writes n) (sym (without_leading_plus_none (decimal n) (no_plus (decimal n) it.0)))
    (record { numeral = it.0; value = it.1 })

-- a numeral of the range is a value of the option, is no flag, and is read as its number
pub limit_plain : (n : ℕ) → n ≤ greatest_limit → IsPlainName (decimal n)
limit_plain n most =
    let small : n < 2 ^ 64 = omega (arith, lit≤ {m = greatest_limit + 1} {n = 2 ^ 64} tt) in
    numeral_plain (decimal n) (decimal_is_IsNumeral n small).0

pub limit_taken : (n : ℕ) → 1 ≤ n → n ≤ greatest_limit → value_kinds false (Unsigned 1 greatest_limit) (decimal n) ≡ []
limit_taken n least most =
    let it = writes n most in
    let small : digits_value 10 (without_leading_plus (decimal n)) < 2 ^ 64 =
    omega (arith, it.value, lit≤ {m = greatest_limit + 1} {n = 2 ^ 64} tt) in
    let low : 1 ≤ digits_value 10 (without_leading_plus (decimal n)) = omega (arith, it.value) in
    let high : digits_value 10 (without_leading_plus (decimal n)) ≤ greatest_limit = omega (arith, it.value) in
    value_kinds-ok false (Unsigned 1 greatest_limit) (decimal n) (it.numeral, small, low, high)

pub limit_read : (other n : ℕ) → n ≤ greatest_limit → n ≡ number_or other (Some (decimal n))
limit_read other n most =
    let it = writes n most in
    let small : digits_value 10 (without_leading_plus (decimal n)) < 2 ^ 32 =
    omega (arith, it.value, lit≤ {m = greatest_limit + 1} {n = 2 ^ 32} tt) in
    number_parsed ℕ other (decimal n) n ((it.numeral, small), sym it.value)

-- the last digit of a numeral is no unit
digit_at : (ds : Text) (k : ℕ) → AllDigits 10 ds → k < length ds → digit_value (get_or ds k 0) < 10
digit_at [] k all some = absurd (omega (arith, some))
digit_at (d ∷ ds) zero all some = all.0
digit_at (d ∷ ds) (suc k) all some = digit_at ds k all.1 (omega (arith, some))

no_unit : (c : ℕ) → digit_value c < 10 → unit_of c ≡ 1
no_unit c is =
    let digit = digit_from_value c is in
    no_letter c (λ e. absurd (omega (arith, digit.0, digit.1, e))) (λ e. absurd (omega (arith, digit.0, digit.1, e)))
    (λ e. absurd (omega (arith, digit.0, digit.1, e))) (λ e. absurd (omega (arith, digit.0, digit.1, e)))

-- a numeral without a unit means its number of bytes
pub bytes_read : (other n : ℕ) → n ≤ greatest_limit → n ≡ bytes_or other (Some (decimal n))
bytes_read other n most =
    let small : n < 2 ^ 64 = omega (arith, lit≤ {m = greatest_limit + 1} {n = 2 ^ 64} tt) in
    let numeral = (decimal_is_IsNumeral n small).0 in
    let plain : unit_of (last_of (decimal n)) ≡ 1 = no_unit (last_of (decimal n))
    (digit_at (decimal n) (length (decimal n) - 1) numeral.1 (let some = numeral.0 in omega (arith, some))) in
    let within : n ≤ greatest_byte = omega (arith, most, lit≤ {m = greatest_limit} {n = greatest_byte} tt) in
    rw plain (sym (ap (λ k. min (k * 1) greatest_byte) (sym (limit_read greatest_byte n most))
    ∙ ap (λ k. min k greatest_byte) (let e : n * 1 ≡ n = omega arith in e) ∙ min-eq_left within))
