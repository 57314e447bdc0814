-- What stands in a list after a growth was refused: what was there, and a prefix of what was to come.
use Rattle.std.proofs.Common.{◌≡◌, ℕ, ◌+◌, ◌-◌, ◌≤◌, List, [], ◌++◌, length, take, drop, Result, Ok, Err, OnErr, sym, ap, subst, ◌∙◌, arith, append_assoc, append-nil, length-append, take-append-drop}
use Rattle.std.proofs.Math.Seq.{take-append-add, take-append_seam}
use Rattle.lbk_feed.specs.Appended.{HasPut}

-- a list that goes on to what was to come, and in which all that was there stands
pub HasPut-before : (old new bytes later : List ℕ) → new ++ later ≡ old ++ bytes → length old ≤ length new → HasPut old new bytes
HasPut-before old new bytes later whole longer = record {
  count = length new - length old;
  is =
      sym (take-append_seam new later) ∙ ap (take (length new)) whole
      ∙ ap (λ n. take n (old ++ bytes)) (let e : length new ≡ length old + (length new - length old) = omega arith in e)
      ∙ take-append-add old bytes (length new - length old);
}

-- it was refused within a part of what was to come
pub HasPut-within : (old middle new part rest bytes : List ℕ) → HasPut middle new part → middle ++ (part ++ rest) ≡ old ++ bytes
    → length old ≤ length middle → HasPut old new bytes
HasPut-within old middle new part rest bytes put whole longer =
    let later = drop put.count part ++ rest in
    let joined : new ++ later ≡ old ++ bytes =
    ap (λ l. l ++ later) put.is ∙ append_assoc middle (take put.count part) later
    ∙ ap (λ l. middle ++ l) (sym (append_assoc (take put.count part) (drop put.count part) rest) ∙ ap (λ l. l ++ rest) (take-append-drop put.count part))
    ∙ whole in
    HasPut-before old new bytes later joined (omega (arith, ap length put.is, length-append middle (take put.count part)))

-- whatever an answer is
pub on_err : {T E P : Type 0} (result : Result T E) → P → OnErr result P
on_err (Ok x) p = tt
on_err (Err fault) p = p

-- the last growth was refused, and left the list as it was
pub refused-before : {T E : Type 0} (result : Result T E) (old middle new later bytes : List ℕ) → OnErr result (new ≡ middle)
    → middle ++ later ≡ old ++ bytes → length old ≤ length middle → OnErr result (HasPut old new bytes)
refused-before (Ok x) old middle new later bytes same whole longer = tt
refused-before (Err fault) old middle new later bytes same whole longer =
    subst (λ (n : List ℕ). HasPut old n bytes) (sym same) (HasPut-before old middle bytes later whole longer)

-- or with a front of the last part
pub refused-within : {T E : Type 0} (result : Result T E) (old middle new part bytes : List ℕ) → OnErr result (HasPut middle new part)
    → middle ++ part ≡ old ++ bytes → length old ≤ length middle → OnErr result (HasPut old new bytes)
refused-within (Ok x) old middle new part bytes put whole longer = tt
refused-within (Err fault) old middle new part bytes put whole longer =
    HasPut-within old middle new part [] bytes put (ap (λ l. middle ++ l) (append-nil part) ∙ whole) longer

-- a growth was refused, and the list is as it was
pub HasPut-unchanged : {T E : Type 0} (result : Result T E) (old new bytes : List ℕ) → new ≡ old → OnErr result (HasPut old new bytes)
HasPut-unchanged result old new bytes same = on_err result (record { count = 0; is = same ∙ sym (append-nil old) })
