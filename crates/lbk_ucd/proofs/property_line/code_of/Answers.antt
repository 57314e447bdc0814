use Rattle.std.proofs.Common.{◌≡◌, ℕ, ◌^◌, ◌<◌, ◌≤◌, List, [], ◌∷◌, length, take, get_or, true, Some, refl, arith, rules, ap}
use Rattle.std.specs.List.{list_all}
use Rattle.std.specs.Char.{digit_value, is_digit}
use Rattle.std.specs.Str.Parse.{digits_value, AllDigits}
use Rattle.std.proofs.lemmas.Int.Digits.{digits_value-lt, digits_value_more, digits_more}
use Rattle.std.proofs.lemmas.List.{take_all, length-take-le}
use Rattle.std.proofs.lemmas.Bool.Decides.{nat_tests}
use Rattle.std.proofs.Math.Nat.{pow-le-pow_right}
use Rattle.lbk_ucd.specs.PropertyLine.{code_of}
use Rattle.lbk_ucd.proofs.property_line.code_of.Goals as goal

-- five digits are a number below 16 ^ 5
below : (digits : List ℕ) (i : ℕ) → i < length digits → length digits ≤ 6 → AllDigits 16 (take i digits) → digits_value 16 (take i digits) < 16 ^ 5
below digits i lt short all =
    let few : length (take i digits) ≡ i = length-take-le i digits (omega arith) in
    let bound = digits_value-lt 16 (take i digits) all in
    let small : length (take i digits) ≤ 5 = omega arith in
    omega (arith, pow-le-pow_right {n = 16} (omega arith) {i = length (take i digits)} {j = 5} small)

-- each digit is one
all_hex : (digits : List ℕ) → AllDigits 16 digits → list_all (λ byte. is_digit byte 16) digits ≡ true
all_hex [] all = refl
all_hex (digit ∷ digits) all =
    let rest = all_hex digits all.1 in
    let first : is_digit digit 16 ≡ true = grind (arith, nat_tests) in
    cc

pub overflow_mul-code : goal.overflow_mul-code
overflow_mul-code c =
    omega (arith, below c.args.digits.now c.loop-digit.digit-index (omega arith) (omega arith) c.loop-digit.invariant.1)

pub overflow_add-code : goal.overflow_add-code
overflow_add-code c =
    omega (arith, below c.args.digits.now c.loop-digit.digit-index (omega arith) (omega arith) c.loop-digit.invariant.1, c.in_ok-code.ensures.value)

pub loop-digit-preserved : goal.loop-digit-preserved
loop-digit-preserved c =
    let digits = c.args.digits.now in
    let i = c.loop-digit.digit-index in
    let lt : i < length digits = omega arith in
    let value = c.in_ok-code.ensures.value in
    let here : c.from.result ≡ get_or digits i 0 = search rules in
    let same : digit_value c.from.result ≡ digit_value (get_or digits i 0) = ap digit_value here in (
      omega (arith, digits_value_more 16 digits i lt, value, same),
      digits_more 16 digits i lt c.loop-digit.invariant.1 (omega (arith, value, same)),
    )

-- four to six digits, each of them one
code_of-all : (digits : List ℕ) (code : ℕ) → 4 ≤ length digits → length digits ≤ 6 → AllDigits 16 digits → code ≡ digits_value 16 digits → Some code ≡ code_of digits
unfolding code_of
code_of-all digits code long short all is =
    let hex = all_hex digits all in
    grind (arith, nat_tests)

pub returns : goal.returns
returns c =
    let digits = c.args.digits.now in
    let whole : take c.loop-digit.digit-index digits ≡ digits = take_all c.loop-digit.digit-index digits (omega arith) in
    code_of-all digits c.loop-digit.code (omega arith) (omega arith) (rw whole at c.loop-digit.invariant.1) (rw whole at c.loop-digit.invariant.0)
