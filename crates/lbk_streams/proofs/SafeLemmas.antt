-- Where a part of a text may begin, told by the classes on both sides.
use Rattle.std.proofs.Common.{◌≡◌, ℕ, ◌+◌, ◌-◌, ◌<◌, ◌≤◌, min, Bool, true, false, Option, List, [], ◌∷◌, ◌++◌, length, map, take, drop, refl, sym, ap, ap₂, subst, ◌∙◌, inr, ⊎_elim, arith, length-drop, length-take-le}
use Rattle.std.proofs.lemmas.Bool.{cases_lt, false≢true}
use Rattle.std.proofs.lemmas.List.{map-append}
use Rattle.bstr.specs.Utf8.{Decoded, IsLastPiece, decoded, lossy_chars, or_replacement, pieces}
use Rattle.bstr.proofs.lemmas.PieceLemmas.{lossy_chars-last, lossy_chars-step}
use Rattle.lbk_rules.specs.declared.Cell.{Cell}
use Rattle.lbk_rules.specs.declared.Class.{Class}
use Rattle.lbk_values.specs.declared.profile.Profile.{Profile}
use Rattle.lbk_rules.specs.Ends.{ends_between}
use Rattle.lbk_rules.specs.Joins.{must_end_between}
use Rattle.lbk_rules.specs.declared.neighbours.Neighbours.{Neighbours}
use Rattle.lbk_rules.specs.FlatTable.{AreFlatKinds}
use Rattle.lbk_streams.specs.Cuts.{BeginsIn, CutsAfter, CutsBefore, EndsBefore, IsPieceStart, IsSafeCut, IsSafeIn, JoinsAt, JoinsIn}
use Rattle.lbk_streams.specs.Looking.{LastIs, NextIs}
use Rattle.lbk_streams.proofs.PieceStartLemmas.{StartsNext, last-begins, last-holds, none-within}
use Rattle.lbk_streams.proofs.JoinLemmas.{joins-at}

pub must_end_between-snoc : (cell : ℕ → Cell) (front : List ℕ) (x y : ℕ) (more : List ℕ)
    → must_end_between cell (front ++ x ∷ []) (y ∷ more) ≡ ends_between (cell x).class (cell y).class
must_end_between-snoc cell [] x y more = refl
must_end_between-snoc cell (a ∷ []) x y more = refl
must_end_between-snoc cell (a ∷ b ∷ front) x y more = must_end_between-snoc cell (b ∷ front) x y more

module _ (cell : ℕ → Cell) (text : List ℕ) where
  -- the two classes tell whether a line must end there
  pub told : (place : ℕ) (last next : Class) → place < length text → LastIs cell text place last → NextIs cell text place next
      → must_end_between cell (lossy_chars (take place text)) (lossy_chars (drop place text)) ≡ ends_between last next
  told place last next inside before next_is =
      let y = or_replacement (decoded (drop place text)).char in
      let some : 0 < length (drop place text) = omega (arith, length-drop place text) in
      ap₂ (must_end_between cell) before.scalars (lossy_chars-step (drop place text) some)
      ∙ must_end_between-snoc cell before.front before.last y (lossy_chars (drop (decoded (drop place text)).size (drop place text)))
      ∙ ap₂ ends_between (sym before.class_is) (sym next_is)

  -- what begins at a place is the last before the next
  pub last-next : (place : ℕ) (class : Class) → StartsNext text place → NextIs cell text place class
      → LastIs cell text (place + (decoded (drop place text)).size) class
  last-next place class next is = record {
    front = lossy_chars (take place text);
    last = or_replacement (decoded (drop place text)).char;
    scalars = ap (map (λ (p : Decoded). or_replacement p.char)) next.front
        ∙ map-append (λ (p : Decoded). or_replacement p.char) (pieces (take place text)) (decoded (drop place text) ∷ []);
    class_is = is;
  }

  pub safe : (place : ℕ) (last next : Class) → place < length text → IsPieceStart text place → LastIs cell text place last → NextIs cell text place next
      → ends_between last next ≡ true → IsSafeCut cell text place
  safe place last next inside starts before next_is ends =
      inr (inr (starts, told place last next inside before next_is ∙ ends))

  -- a place of no line end is no safe one, unless it is at an end
  unsafe : (place : ℕ) → 0 < place → place < length text → ¬ (EndsBefore cell text place) → ¬ (IsSafeCut cell text place)
  unsafe place some inside none =
      ⊎_elim (λ start. omega arith) (⊎_elim (λ end. omega arith) none)

  pub unsafe-between : (place : ℕ) (last next : Class) → 0 < place → place < length text → LastIs cell text place last → NextIs cell text place next
      → ends_between last next ≡ false → ¬ (IsSafeCut cell text place)
  unsafe-between place last next some inside before next_is none =
      unsafe place some inside (λ ends. false≢true (sym none ∙ sym (told place last next inside before next_is) ∙ ends.1))

  -- nor is a place within a piece
  pub unsafe-within : (start place : ℕ) → start < place → place < length text → place < start + (decoded (drop start text)).size → IsPieceStart text start
      → ¬ (IsSafeCut cell text place)
  unsafe-within start place later inside before starts =
      unsafe place (omega arith) inside (λ ends.
      (let least = none-within text start place (omega arith) (omega arith) starts ends.0 later in omega arith))

-- the last piece of the front of a text, as it is found
pub record Found (text : List ℕ) (end char size : ℕ) : Type 0 where
  pub of : Option ℕ
  pub char_is : char ≡ or_replacement of
  pub last : IsLastPiece (take end text) (record { char = of; size = size })

pub found : (text : List ℕ) (end char size : ℕ) → 0 < end → end ≤ length text
    → (0 < length (take end text) → (of : Option ℕ) × (char ≡ or_replacement of) × IsLastPiece (take end text) (record { char = of; size = size }))
    → Found text end char size
found text end char size some within last =
    let l = last (omega (arith, length-take-le end text within)) in
    record { of = l.0; char_is = l.1; last = l.2 }

-- and where it begins
pub found-starts : (text : List ℕ) (end char size : ℕ) → end ≤ length text → Found text end char size
    → IsPieceStart text (end - size) × (end ≤ (end - size) + (decoded (drop (end - size) text)).size)
found-starts text end char size within f =
    let r : Decoded = record { char = f.of; size = size } in
    (last-begins text end r within f.last, last-holds text end r within f.last)

pub found-last : (cell : ℕ → Cell) (text : List ℕ) (end char size : ℕ) (class : Class) → Found text end char size → class ≡ (cell char).class → LastIs cell text end class
found-last cell text end char size class f is = record {
  front = lossy_chars (take (length (take end text) - size) (take end text));
  last = or_replacement f.of;
  scalars = lossy_chars-last (take end text) (record { char = f.of; size = size }) f.last;
  class_is = is ∙ ap (λ x. (cell x).class) f.char_is;
}

-- at a place within a text a part may begin only where the breaks join
pub joins-safe : (profile : Profile) (cell : ℕ → Cell) (text : List ℕ) (place : ℕ) → 0 < place → place < length text → IsSafeCut cell text place
    → JoinsAt profile cell text place
joins-safe profile cell text place some inside safe =
    let within : place ≤ length text = omega arith in
    ⊎_elim (λ start. absurd (let no : ⊥ = omega arith in no))
    (⊎_elim (λ end. absurd (let no : ⊥ = omega arith in no)) (joins-at profile cell text place within)) safe

-- what holds of a place before another, there and behind it
pub at-each : (P : ℕ → Type 0) (at place : ℕ) → P at → (place < at → P place) → (at < place → P place) → P place
at-each P at place here before behind =
    ⊎_elim before
    (λ from. ⊎_elim behind (λ up. let is : place ≡ at = omega arith in subst P (sym is) here) (cases_lt at place))
    (cases_lt place at)

-- nor may one begin where a look at the place says so
pub unsafe-here : (pieces_of : List ℕ → List Decoded) (cell : ℕ → Cell) (text : List ℕ) (at place : ℕ) (may : Bool) → may ≡ false
    → (IsSafeIn pieces_of cell text at → may ≡ true)
    → (place < at → ¬ (IsSafeIn pieces_of cell text place)) → (at < place → ¬ (IsSafeIn pieces_of cell text place))
    → ¬ (IsSafeIn pieces_of cell text place)
unsafe-here pieces_of cell text at place may stays told =
    at-each (λ n. ¬ (IsSafeIn pieces_of cell text n)) at place (λ holds. false≢true (sym stays ∙ told holds))

-- What a call promises that cuts a text, by what it found

module _ (pieces_of : List ℕ → List Decoded) (kinds : List ℕ) (pairs : Neighbours) (text : List ℕ) (at result : ℕ)
    (joins : (profile : Profile) (cell : ℕ → Cell) → 0 < result → result < length text → IsSafeIn pieces_of cell text result → JoinsIn pieces_of profile cell text result)
    (begins : BeginsIn pieces_of text result)
    (is_safe : (cell : ℕ → Cell) → AreFlatKinds kinds cell → IsSafeIn pieces_of cell text result) where
  pub cuts-after : result ≤ length text → min at (length text) ≤ result → (at ≡ 0 → result ≡ 0)
      → ((cell : ℕ → Cell) (place : ℕ) → AreFlatKinds kinds cell → at ≤ place → place < result → ¬ (IsSafeIn pieces_of cell text place))
      → CutsAfter pieces_of kinds pairs text at result
  cuts-after within behind start least = record {
    within = within;
    past = λ past. omega arith;
    behind = λ inside. omega arith;
    start = start;
    begins = begins;
    first = λ cell flat.
        record { within = within; behind = behind; safe = is_safe cell flat.kinds; least = λ place from less. least cell place flat.kinds from less };
    joined = λ cell profile flat some inside. joins profile cell some inside (is_safe cell flat.kinds);
  }

  pub cuts-before : result ≤ min at (length text) → (length text ≤ at → result ≡ length text)
      → ((cell : ℕ → Cell) (place : ℕ) → AreFlatKinds kinds cell → result < place → place ≤ at → place ≤ length text → ¬ (IsSafeIn pieces_of cell text place))
      → CutsBefore pieces_of kinds pairs text at result
  cuts-before before past greatest = record {
    within = omega arith;
    past = past;
    before = omega arith;
    begins = begins;
    last = λ cell flat.
        record { before = before; safe = is_safe cell flat.kinds; greatest = λ place later up within. greatest cell place flat.kinds later up within };
    joined = λ cell profile flat some inside. joins profile cell some inside (is_safe cell flat.kinds);
  }
