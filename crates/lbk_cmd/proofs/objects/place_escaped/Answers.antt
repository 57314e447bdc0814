use Rattle.std.proofs.Common.{◌≡◌, ◌≤◌, ◌<◌, ℕ, ◌/◌, ◌%◌, [], ◌∷◌, true, false, nat_lt, ap, ap₂, subst, arith, refl}
use Rattle.std.specs.Char.{digit_char}
use Rattle.std.proofs.lemmas.Bool.Decides.{nat_tests}
use Rattle.json.specs.Print.{escape_byte, escape_letter}
use Rattle.lbk_passage.specs.Placing.{Placed}
use Rattle.lbk_cmd.proofs.objects.place_escaped.Goals as goal

by-letter : (x letter : ℕ) → letter ≡ escape_letter x → 0 < letter → 92 ∷ letter ∷ [] ≡ escape_byte x
unfolding escape_byte
by-letter x letter is some =
    let many : nat_lt 0 (escape_letter x) ≡ true = subst (λ n. nat_lt 0 n ≡ true) is (grind (arith, nat_tests)) in
    rw many (ap (λ n. 92 ∷ n ∷ []) is)

by-code : (x letter high low : ℕ) → letter ≡ escape_letter x → letter ≤ 0 → x < 32 → high ≡ digit_char (x / 16) → low ≡ digit_char (x % 16)
    → 92 ∷ 117 ∷ 48 ∷ 48 ∷ high ∷ low ∷ [] ≡ escape_byte x
unfolding escape_byte
by-code x letter high low is none few first second =
    let no : nat_lt 0 (escape_letter x) ≡ false = subst (λ n. nat_lt 0 n ≡ false) is (grind (arith, nat_tests)) in
    let yes : nat_lt x 32 ≡ true = grind (arith, nat_tests) in
    rw (no, yes) (ap₂ (λ n m. 92 ∷ 117 ∷ 48 ∷ 48 ∷ n ∷ m ∷ []) first second)

by-itself : (x letter : ℕ) → letter ≡ escape_letter x → letter ≤ 0 → 32 ≤ x → x ∷ [] ≡ escape_byte x
unfolding escape_byte
by-itself x letter is none many =
    let no : nat_lt 0 (escape_letter x) ≡ false = subst (λ n. nat_lt 0 n ≡ false) is (grind (arith, nat_tests)) in
    let late : nat_lt x 32 ≡ false = grind (arith, nat_tests) in
    rw (no, late) refl

pub returns-then-letter-gt0 : goal.returns-then-letter-gt0
returns-then-letter-gt0 c =
    subst (λ t. Placed c.args.buf.now c.place_front.new.buf c.args.at t c.place_front.result)
    (by-letter c.args.byte c.escape_letter-letter.result c.escape_letter-letter.ensures c.if-letter-gt0.true) c.place_front.ensures

pub returns-then-byte-lt32 : goal.returns-then-byte-lt32
returns-then-byte-lt32 c =
    subst (λ t. Placed c.args.buf.now c.place_front-then-byte-lt32.new.buf c.args.at t c.place_front-then-byte-lt32.result)
    (by-code c.args.byte c.escape_letter-letter.result c.digit.result c.digit-then-byte-lt32.result c.escape_letter-letter.ensures c.if-letter-gt0.false c.if-byte-lt32.true c.digit.ensures c.digit-then-byte-lt32.ensures)
    c.place_front-then-byte-lt32.ensures

pub returns : goal.returns
returns c =
    subst (λ t. Placed c.args.buf.now c.place_byte.new.buf c.args.at t c.place_byte.result)
    (by-itself c.args.byte c.escape_letter-letter.result c.escape_letter-letter.ensures c.if-letter-gt0.false c.if-byte-lt32.false) c.place_byte.ensures
