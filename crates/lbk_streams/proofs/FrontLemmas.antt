-- The scalar at the front of some units, whatever follows them.
use Rattle.std.proofs.Common.{◌≡◌, ℕ, zero, suc, ◌+◌, ◌-◌, ◌<◌, ◌≤◌, ◌⊎◌, inl, inr, ⊎_elim, false, true, List, [], ◌∷◌, ◌++◌, length, get_or, drop, take, Some, append_assoc, refl, sym, ap, subst, ◌∙◌, length-drop, arith}
use Rattle.std.specs.Char.Utf16.{is_high_surrogate, lone_unit_char, surrogate_pair_char}
use Rattle.std.proofs.lemmas.Bool.{cases_lt, false≢true}
use Rattle.std.proofs.lemmas.Bool.Decides.{nat_tests}
use Rattle.std.proofs.lemmas.List.{drop-append-le, drop-drop, get_or_append_left, get_or_past, get_or-drop, get_or-take, length-append, length-take, take-append-drop}
use Rattle.bstr.specs.Utf8.{Decoded, bad, decoded, pieces}
use Rattle.bstr.proofs.lemmas.PieceLemmas.{piece-bounds, pieces-step}
use Rattle.lbk_bytes.specs.Open.{could_go_on}
use Rattle.lbk_bytes.proofs.CutLemmas.{closed-more}
use Rattle.lbk_bytes.specs.declared.unit.UnitScalar.{UnitScalar}
use Rattle.lbk_units.specs.Front.{IsFront}
use Rattle.lbk_units.specs.Reached.{Follows, on_from}
use Rattle.lbk_units.specs.Units.{pieces_of_utf16, utf16_piece}
use Rattle.lbk_bytes.proofs.WideLemmas.{IsPair, alone-begins, lone-high, lone-low, lone-surrogate, one-unit, pair-begins, two-units}
use Rattle.lbk_streams.specs.Streams.{could_go_on_utf16}

-- what two texts begin with
pub record AreFronts {A : Type 0} (pieces_of : List A → List Decoded) (units whole : List A) (p : Decoded) : Type 0 where
  pub here : pieces_of units ≡ p ∷ pieces_of (drop p.size units)
  pub there : pieces_of whole ≡ p ∷ pieces_of (drop p.size whole)
  pub within : p.size ≤ length whole

pub front-size : {A : Type 0} (pieces_of : List A → List Decoded) (units : List A) (p : Decoded) (found : UnitScalar)
    → pieces_of units ≡ p ∷ pieces_of (drop p.size units) → (front : IsFront pieces_of units found) → (front.piece ≡ p) × (found.size ≡ p.size)
front-size pieces_of units p found here front =
    let same : front.piece ≡ p = ap (λ l. get_or l 0 (bad 1)) (sym front.begins ∙ here) in
    (same, sym front.sized ∙ ap (λ (q : Decoded). q.size) same)

pub front-more : {A : Type 0} (pieces_of : List A → List Decoded) (units whole : List A) (p : Decoded) (found : UnitScalar)
    → AreFronts pieces_of units whole p → IsFront pieces_of units found → IsFront pieces_of whole found
front-more pieces_of units whole p found f front =
    let is = front-size pieces_of units p found f.here front in
    record {
      piece = front.piece;
      begins = f.there ∙ ap (λ q. q ∷ pieces_of (drop p.size whole)) (sym is.0) ∙ ap (λ n. front.piece ∷ pieces_of (drop n whole)) (sym is.1);
      reads = front.reads;
      sized = front.sized;
      some = front.some;
      few = front.few;
      within = omega (arith, is.1, f.within);
    }

-- UTF-8

pub utf8-few : (bytes : List ℕ) (found : UnitScalar) → 0 < length bytes → IsFront pieces bytes found → found.size ≤ 4
utf8-few bytes found some front =
    omega (arith, (front-size pieces bytes (decoded bytes) found (pieces-step bytes some) front).1, (piece-bounds bytes some).1)

pub utf8-whole : (bytes more : List ℕ) (found : UnitScalar) → 0 < length bytes → could_go_on bytes ≡ false → IsFront pieces bytes found → IsFront pieces (bytes ++ more) found
utf8-whole bytes more found some closed front =
    let long = length-append bytes more in
    let some_more : 0 < length (bytes ++ more) = omega arith in
    let same = closed-more bytes more some closed in
    front-more pieces bytes (bytes ++ more) (decoded bytes) found
    (record {
      here = pieces-step bytes some;
      there = pieces-step (bytes ++ more) some_more ∙ ap (λ (p : Decoded). p ∷ pieces (drop p.size (bytes ++ more))) same;
      within = omega (arith, (piece-bounds (bytes ++ more) some_more).2, ap (λ (p : Decoded). p.size) same);
    }) front

-- UTF-16

pair-or : (u v : ℕ) → IsPair u v ⊎ (¬ (IsPair u v))
pair-or u v =
    ⊎_elim (λ (low : u < 0xD800). inr (λ pair. omega (arith, pair.0))) (λ (high : 0xD800 ≤ u).
    ⊎_elim (λ (below : u < 0xDC00).
    ⊎_elim (λ (low_v : v < 0xDC00). inr (λ pair. omega (arith, pair.2))) (λ (high_v : 0xDC00 ≤ v).
    ⊎_elim (λ (below_v : v < 0xE000). inl (high, below, high_v, below_v)) (λ (above_v : 0xE000 ≤ v). inr (λ pair. omega (arith, pair.3)))
    (cases_lt v 0xE000)) (cases_lt v 0xDC00)) (λ (above : 0xDC00 ≤ u). inr (λ pair. omega (arith, pair.1)))
    (cases_lt u 0xDC00)) (cases_lt u 0xD800)

lone-size : (u : ℕ) → u < 0x10000 → (utf16_piece (lone_unit_char u)).size ≡ 1
lone-size u few =
    ⊎_elim (λ (low : u < 0xD800). ap (λ o. (utf16_piece o).size) (lone-low u low) ∙ one-unit u few) (λ (from : 0xD800 ≤ u).
    ⊎_elim (λ (below : u < 0xE000). ap (λ o. (utf16_piece o).size) (lone-surrogate u from below))
    (λ (high : 0xE000 ≤ u). ap (λ o. (utf16_piece o).size) (lone-high u high) ∙ one-unit u few)
    (cases_lt u 0xE000)) (cases_lt u 0xD800)

-- one unit, or the two of a pair
pub record IsFrontOf (units more : List ℕ) : Type 0 where
  pub piece : Decoded
  pub few : piece.size ≤ 2
  pub fronts : AreFronts pieces_of_utf16 units (units ++ more) piece

front-alone : (u : ℕ) (us more : List ℕ) → u < 0x10000 → ¬ (IsPair u (get_or us 0 0)) → ¬ (IsPair u (get_or (us ++ more) 0 0)) → IsFrontOf (u ∷ us) more
front-alone u us more few apart apart_more =
    let p = utf16_piece (lone_unit_char u) in
    let one = lone-size u few in
    record {
      piece = p;
      few = omega (arith, one);
      fronts = record {
        here = alone-begins (u ∷ us) (omega arith) apart ∙ ap (λ n. p ∷ pieces_of_utf16 (drop n (u ∷ us))) (sym one);
        there = alone-begins (u ∷ (us ++ more)) (omega arith) apart_more ∙ ap (λ n. p ∷ pieces_of_utf16 (drop n (u ∷ (us ++ more)))) (sym one);
        within = omega (arith, one);
      };
    }

utf16-front-of : (units more : List ℕ) → 0 < length units → get_or units 0 0 < 0x10000
    → (length units ≡ 1 → ¬ (IsPair (get_or units 0 0) (get_or more 0 0))) → IsFrontOf units more
utf16-front-of [] more some few apart = absurd (omega arith)
utf16-front-of (u ∷ []) more some few apart = front-alone u [] more few (λ pair. omega (arith, pair.2)) (apart refl)
utf16-front-of (u ∷ v ∷ us) more some few apart =
    ⊎_elim
    (λ (pair : IsPair u v).
    let x = surrogate_pair_char u v in
    let two = two-units x (omega (arith, pair.0, pair.1, pair.2, pair.3)) in
    record {
      piece = utf16_piece (Some x);
      few = omega (arith, two);
      fronts = record {
        here = pair-begins (u ∷ v ∷ us) (omega arith) pair ∙ ap (λ n. utf16_piece (Some x) ∷ pieces_of_utf16 (drop n (u ∷ v ∷ us))) (sym two);
        there = pair-begins (u ∷ v ∷ (us ++ more)) (omega arith) pair ∙ ap (λ n. utf16_piece (Some x) ∷ pieces_of_utf16 (drop n (u ∷ v ∷ (us ++ more)))) (sym two);
        within = omega (arith, two);
      };
    })
    (λ (alone : ¬ (IsPair u v)). front-alone u (v ∷ us) more few alone alone)
    (pair-or u v)

pub utf16-whole : (units more : List ℕ) (found : UnitScalar) → 0 < length units → get_or units 0 0 < 0x10000
    → (length units ≡ 1 → ¬ (IsPair (get_or units 0 0) (get_or more 0 0))) → IsFront pieces_of_utf16 units found → IsFront pieces_of_utf16 (units ++ more) found
utf16-whole units more found some few apart front =
    let is = utf16-front-of units more some few apart in
    front-more pieces_of_utf16 units (units ++ more) is.piece found is.fronts front

pub utf16-few : (units : List ℕ) (found : UnitScalar) → 0 < length units → get_or units 0 0 < 0x10000 → IsFront pieces_of_utf16 units found → found.size ≤ 2
utf16-few units found some few front =
    let is = utf16-front-of units [] some few (λ _ pair. omega (arith, pair.2)) in
    omega (arith, is.few, (front-size pieces_of_utf16 units is.piece found is.fronts.here front).1)

pub high-below : (u : ℕ) → is_high_surrogate u ≡ true → u < 0xDC00
high-below u high = grind (arith, nat_tests)

pub no-high : (u v : ℕ) → is_high_surrogate u ≡ false → ¬ (IsPair u v)
no-high u v low = λ pair.
    let high : is_high_surrogate u ≡ true = (let from = pair.0 in let below = pair.1 in grind (arith, nat_tests)) in
    false≢true (sym low ∙ high)

-- what could not go on makes no pair with what follows
pub closed-apart : (units more : List ℕ) → could_go_on_utf16 units ≡ false → length units ≡ 1 → ¬ (IsPair (get_or units 0 0) (get_or more 0 0))
closed-apart [] more closed one = absurd (omega arith)
closed-apart (u ∷ []) more closed one = no-high u (get_or more 0 0) closed
closed-apart (u ∷ v ∷ us) more closed one = absurd (omega arith)

-- a part of a text has the scalars of the text, if no pair stands at its end
pub utf16-follows : (part rest : List ℕ) → ((k : ℕ) → get_or part k 0 < 0x10000)
    → ((k : ℕ) → k + 1 ≡ length part → ¬ (IsPair (get_or part k 0) (get_or rest 0 0)))
    → Follows pieces_of_utf16 part (on_from pieces_of_utf16 (part ++ rest))
utf16-follows part rest few apart at found inside front =
    let units = drop at part in
    let left = length-drop at part in
    let first : get_or units 0 0 ≡ get_or part at 0 = get_or-drop at part 0 0 ∙ ap (λ n. get_or part n 0) (let e : at + 0 ≡ at = omega arith in e) in
    let whole = utf16-whole units rest found (omega arith) (subst (λ n. n < 0x10000) (sym first) (few at))
    (λ one. subst (λ n. ¬ (IsPair n (get_or rest 0 0))) (sym first) (apart at (omega arith))) front in
    let split : drop at (part ++ rest) ≡ units ++ rest = drop-append-le at part rest (omega arith) in
    record {
      piece = whole.piece;
      begins = ap pieces_of_utf16 split ∙ whole.begins
          ∙ ap (λ l. whole.piece ∷ pieces_of_utf16 (drop found.size l)) (sym split)
          ∙ ap (λ l. whole.piece ∷ pieces_of_utf16 l) (drop-drop found.size at (part ++ rest));
      reads = whole.reads;
      sized = whole.sized;
    }

-- a piece without its last unit
pub utf16-follows-last : (piece more : List ℕ) (last : ℕ) → ((k : ℕ) → get_or piece k 0 < 0x10000) → last + 1 ≡ length piece → get_or piece last 0 < 0xDC00
    → Follows pieces_of_utf16 (take last piece) (on_from pieces_of_utf16 (piece ++ more))
utf16-follows-last piece more last few ends high =
    let part = take last piece in
    let rest = drop last piece ++ more in
    let same : part ++ rest ≡ piece ++ more = sym (append_assoc part (drop last piece) more) ∙ ap (λ l. l ++ more) (take-append-drop last piece) in
    let long = length-drop last piece in
    let head : get_or rest 0 0 ≡ get_or piece last 0 =
    get_or_append_left (drop last piece) more 0 0 (omega arith) ∙ get_or-drop last piece 0 0 ∙ ap (λ n. get_or piece n 0) (let e : last + 0 ≡ last = omega arith in e) in
    subst (λ l. Follows pieces_of_utf16 part (on_from pieces_of_utf16 l)) same
    (utf16-follows part rest (take-few piece last few) (λ k _ pair. omega (arith, pair.2, head)))
  where
    take-few : (xs : List ℕ) (n : ℕ) → ((k : ℕ) → get_or xs k 0 < 0x10000) → (k : ℕ) → get_or (take n xs) k 0 < 0x10000
    take-few xs n all k =
        ⊎_elim (λ (before : k < n). subst (λ x. x < 0x10000) (sym (get_or-take n xs k 0 before)) (all k))
        (λ (on : n ≤ k). subst (λ x. x < 0x10000) (sym (get_or_past (take n xs) k 0 (omega (arith, length-take n xs)))) (omega arith))
        (cases_lt k n)

-- a unit less
pub behind-one : {A : Type 0} (a b c d : A) (n : ℕ) → 0 < n → n ≤ 4 → take (n - 1) (b ∷ c ∷ d ∷ d ∷ []) ≡ drop 1 (take n (a ∷ b ∷ c ∷ d ∷ []))
behind-one a b c d zero some few = absurd (omega arith)
behind-one a b c d (suc zero) some few = refl
behind-one a b c d (suc (suc zero)) some few = refl
behind-one a b c d (suc (suc (suc zero))) some few = refl
behind-one a b c d (suc (suc (suc (suc zero)))) some few = refl
behind-one a b c d (suc (suc (suc (suc (suc n))))) some few = absurd (omega arith)
