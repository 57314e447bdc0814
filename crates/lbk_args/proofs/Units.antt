-- A text without the letter at its end.
use Rattle.std.proofs.Common.{◌≡◌, ◌≢◌, ◌+◌, ◌-◌, ◌<◌, ◌∙◌, ℕ, Bool, true, false, List, [], ◌∷◌, ◌++◌, Option, Some, None, suc}
use Rattle.std.proofs.Common.{length, take, ap, refl, sym, arith, eqb-true, nat_lt, ltb-true}
use Rattle.std.specs.Borrow.{Bor}
use Rattle.std.specs.Option.{MatchOption}
use Rattle.std.specs.Prelude.{◌==◌}
use Rattle.std.specs.Option.{unwrap_or}
use Rattle.std.proofs.Math.Seq.{take-append_seam, take-length, take-suc}
use Rattle.std.proofs.lemmas.Bool.{ltb-false}
use Rattle.std.proofs.lemmas.Bool.Decides.{nat_tests}
use Rattle.std.proofs.lemmas.List.{length-append}
use Rattle.clap.specs.Words.{Text}
use Rattle.lbk_args.specs.Numbers.{last_of, unit_of}

-- a byte that is none of the letters is no unit
pub no_letter : (c : ℕ) → c ≢ 75 → c ≢ 107 → c ≢ 77 → c ≢ 109 → unit_of c ≡ 1
no_letter c k1 k2 m1 m2 =
    let one : (c == 75) ≡ false = grind (arith, nat_tests) in
    let two : (c == 107) ≡ false = grind (arith, nat_tests) in
    let three : (c == 77) ≡ false = grind (arith, nat_tests) in
    let four : (c == 109) ≡ false = grind (arith, nat_tests) in
    rw (one, two, three, four) refl

-- a letter that is one is ASCII
pub unit_small : (c : ℕ) → unit_of c ≢ 1 → c < 128
unit_small c unit = go (nat_lt c 128) refl
  where
    go : (b : Bool) → nat_lt c 128 ≡ b → c < 128
    go true is = ltb-true c 128 is
    go false is =
        let large = ltb-false c 128 is in
        absurd (unit (no_letter c (λ e. absurd (omega (arith, large, e))) (λ e. absurd (omega (arith, large, e)))
        (λ e. absurd (omega (arith, large, e))) (λ e. absurd (omega (arith, large, e)))))

-- a text that is not empty is its front and its last byte
ends : (text : Text) → 0 < length text → take (length text - 1) text ++ (last_of text ∷ []) ≡ text
ends text some =
    let count : suc (length text - 1) ≡ length text = omega (arith, some) in
    sym (take-suc text (length text - 1) 0 (omega (arith, some)))
    ∙ ap (λ n. take n text) count ∙ take-length text

front_is : (text front : Text) (last : ℕ) → text ≡ front ++ (last ∷ []) → front ≡ take (length text - 1) text
front_is text front last is =
    let long : length text ≡ length front + 1 = ap length is ∙ length-append front (last ∷ []) in
    let count : length text - 1 ≡ length front = omega (arith, long) in
    rw count (sym (ap (take (length front)) is ∙ take-append_seam front (last ∷ [])))

-- the front of a text that ends in a unit, by what `strip_suffix` finds
pub stripped : (text : Text) (r : Option (Bor (List ℕ))) (whole : Bor (List ℕ)) → unit_of (last_of text) ≢ 1
    → MatchOption r ((front : List ℕ) → text ≢ front ++ (last_of text ∷ [])) (λ x. text ≡ x.now ++ (last_of text ∷ []))
    → (unwrap_or r whole).now ≡ take (length text - 1) text
stripped [] r whole unit cases = absurd (unit refl)
stripped (t ∷ ts) None whole unit never =
    absurd (never (take (length (t ∷ ts) - 1) (t ∷ ts)) (sym (ends (t ∷ ts) (omega arith))))
stripped (t ∷ ts) (Some x) whole unit is = front_is (t ∷ ts) x.now (last_of (t ∷ ts)) is

-- a number that is not 1, as a test
pub not_one : (n : ℕ) → n ≢ 1 → (n == 1) ≡ false
not_one n other = go (n == 1) refl
  where
    go : (b : Bool) → (n == 1) ≡ b → (n == 1) ≡ false
    go false e = e
    go true e = absurd (other (eqb-true _ _ e))
