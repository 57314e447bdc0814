-- Texts placed in one buffer, one behind another.
use Rattle.std.proofs.Common.{◌≡◌, ℕ, ◌+◌, ◌/◌, ◌%◌, ◌<◌, ◌≤◌, ◌^◌, List, [], ◌∷◌, ◌++◌, decimal, length, take, ap, ap₂, sym, ◌∙◌, arith, append_assoc, length-append}
use Rattle.std.proofs.Math.Seq.{take-add}
use Rattle.std.proofs.lemmas.Fmt.{decimal_step}
use Rattle.std.proofs.lemmas.List.{drop_at, length-take, length-take-le, take-append-le, take-take, take_at}
use Rattle.lbk_passage.specs.Placing.{Placed, four_digits}

-- a second text begins where the first ends
pub Placed-then : {a b c xs ys : List ℕ} {i j k : ℕ} → Placed a b i xs j → Placed b c j ys k → Placed a c i (xs ++ ys) k
Placed-then {a} {b} {c} {xs} {ys} {i} p q = record {
  bytes = q.bytes ∙ ap (λ l. l ++ ys) p.bytes ∙ append_assoc (take i a) xs ys;
  moved = omega (arith, p.moved, q.moved, length-append xs ys);
  len = q.len ∙ p.len;
}

-- the first n bytes of a text
pub Placed-front : {a b xs : List ℕ} {i j : ℕ} (n : ℕ) → i ≤ length a → n ≤ length xs → Placed a b i xs j → Placed a b i (take n xs) (i + n)
Placed-front {a} {b} {xs} {i} {j} n within few p =
    let before : length (take i a) ≡ i = length-take-le i a within in
    record {
      bytes = sym (take-take (i + n) j b (omega (arith, p.moved))) ∙ ap (take (i + n)) p.bytes ∙ take-add i n (take i a ++ xs)
          ∙ ap₂ (λ l m. l ++ take n m) (take_at (take i a) xs i before) (drop_at (take i a) xs i before);
      moved = omega (arith, length-take-le n xs few);
      len = p.len;
    }

-- the last four digits of a number of five or more
pub decimal-four : (n : ℕ) → 10000 ≤ n → n < 2 ^ 64 → decimal n ≡ decimal (n / 10000) ++ four_digits (n % 10000)
decimal-four n large small =
    let tens : n / 10 / 10 / 10 / 10 ≡ n / 10000 = omega arith in
    let first : n / 10 / 10 / 10 % 10 ≡ n % 10000 / 1000 = omega arith in
    let second : n / 10 / 10 % 10 ≡ n % 10000 / 100 % 10 = omega arith in
    let third : n / 10 % 10 ≡ n % 10000 / 10 % 10 = omega arith in
    let fourth : n % 10 ≡ n % 10000 % 10 = omega arith in
    decimal_step n (omega arith) small
    ∙ ap (λ l. l ++ (48 + n % 10) ∷ []) (decimal_step (n / 10) (omega arith) (omega arith))
    ∙ append_assoc (decimal (n / 10 / 10)) ((48 + n / 10 % 10) ∷ []) ((48 + n % 10) ∷ [])
    ∙ ap (λ l. l ++ (48 + n / 10 % 10) ∷ (48 + n % 10) ∷ []) (decimal_step (n / 10 / 10) (omega arith) (omega arith))
    ∙ append_assoc (decimal (n / 10 / 10 / 10)) ((48 + n / 10 / 10 % 10) ∷ []) ((48 + n / 10 % 10) ∷ (48 + n % 10) ∷ [])
    ∙ ap (λ l. l ++ (48 + n / 10 / 10 % 10) ∷ (48 + n / 10 % 10) ∷ (48 + n % 10) ∷ []) (decimal_step (n / 10 / 10 / 10) (omega arith) (omega arith))
    ∙ append_assoc (decimal (n / 10 / 10 / 10 / 10)) ((48 + n / 10 / 10 / 10 % 10) ∷ []) ((48 + n / 10 / 10 % 10) ∷ (48 + n / 10 % 10) ∷ (48 + n % 10) ∷ [])
    ∙ (λ i. decimal (tens i) ++ (48 + first i) ∷ (48 + second i) ∷ (48 + third i) ∷ (48 + fourth i) ∷ [])

-- a list that begins with another, as one does that goes on behind it
pub front_append : (a b c : List ℕ) → take (length a) b ≡ a → take (length a) (b ++ c) ≡ a
front_append a b c p =
    let short : length a ≤ length b = omega (arith, ap length p, length-take (length a) b) in
    take-append-le (length a) b c short ∙ p

-- and one that begins with such a list
pub front_then : (a b c : List ℕ) → take (length a) b ≡ a → take (length b) c ≡ b → take (length a) c ≡ a
front_then a b c p q =
    let short : length a ≤ length b = omega (arith, ap length p, length-take (length a) b) in
    sym (take-take (length a) (length b) c short) ∙ ap (take (length a)) q ∙ p
