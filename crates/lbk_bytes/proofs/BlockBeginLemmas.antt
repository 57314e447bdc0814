-- Where a block begins, and what its bytes are as far as none is special or stray.
use Rattle.std.proofs.Common.{◌≡◌, ◌⊎◌, ℕ, zero, suc, ◌+◌, ◌-◌, ◌<◌, ◌≤◌, ◌&&◌, ◌||◌, ◌==◌, Bool, true, false, not, leb, ltb, List, length, get_or, take, drop, bit_and, refl, sym, ap, ap₂, subst, ◌∙◌, ⊎_elim, inl, inr, arith}
use Rattle.std.specs.Int.Bits.{bit_or}
use Rattle.std.proofs.lemmas.Bool.{and_from, and_parts, cases_lt, eq-eqb, le-leb, leb-true, lt-leb, lt-ltb, ltb-true, not_from_true, or_parts}
use Rattle.std.proofs.lemmas.List.{get_or_past, length-drop}
use Rattle.std.proofs.lemmas.Nat.{and_le_r}
use Rattle.lbk_rules.specs.Letters.{StandsForAll}
use Rattle.lbk_masks.proofs.BitLemmas.{set-or}
use Rattle.lbk_masks.proofs.FoundLemmas.{rest-byte}
use Rattle.lbk_masks.specs.Sets.{is_set, left_before, left_in, meets, right_in}
use Rattle.lbk_masks.specs.Strays.{is_pair, is_second, is_stray}
use Rattle.lbk_rules.specs.declared.Cell.{Cell}
use Rattle.lbk_rules.specs.declared.steps.Step.{Step}
use Rattle.lbk_rules.specs.declared.neighbours.Neighbours.{Neighbours}
use Rattle.lbk_values.specs.declared.profile.Profile.{Profile}
use Rattle.lbk_rules.specs.FlatTable.{AreFlatKinds}
use Rattle.lbk_rules.proofs.FlatLemmas.{place-any}
use Rattle.lbk_rules.specs.Neighbours.{AreSettled, AreTold, is_special}
use Rattle.lbk_rules.specs.Rows.{IsPlace, steps_in}
use Rattle.lbk_bytes.specs.declared.fill_state.FillState.{FillState}
use Rattle.lbk_bytes.specs.declared.block_marks.Marks.{Marks}
use Rattle.lbk_bytes.specs.Blocks.{AreMarks, IsBlock, IsByteTold, Rests, byte_at, row_before, stands_at, stops_at}
use Rattle.lbk_bytes.proofs.BlockLemmas.{order}
use Rattle.lbk_bytes.proofs.BlockScalarLemmas.{begins-or}
use Rattle.lbk_bytes.proofs.MarkLemmas.{or-false}
use Rattle.lbk_bytes.proofs.PieceLemmas.{rest-of}
use Rattle.lbk_bytes.proofs.StepLemmas.{swift-step}

-- what is left of a text
abbrev pub rest_at : List ℕ → ℕ → List ℕ
rest_at text at = take (length text - at) (drop at text)

rest-length : (text : List ℕ) (at : ℕ) → length (rest_at text at) ≡ length text - at
rest-length text at = ap length (rest-of text at) ∙ length-drop at text

-- the set of the byte before byte i of it
left-is : (pairs : Neighbours) (text : List ℕ) (at before i : ℕ) → before ≡ left_in pairs.sets (byte_at text (at - 1))
    → left_before pairs.sets before (rest_at text at) i ≡ left_in pairs.sets (byte_at text (at + i - 1))
left-is pairs text at before zero set = set ∙ ap (λ n. left_in pairs.sets (byte_at text n)) (let e : at - 1 ≡ at + 0 - 1 = omega arith in e)
left-is pairs text at before (suc i) set =
    ap (left_in pairs.sets) (rest-byte text at i)
    ∙ ap (λ n. left_in pairs.sets (byte_at text n)) (let e : at + i ≡ at + suc i - 1 = omega arith in e)

stands-is : (pairs : Neighbours) (text : List ℕ) (at before i : ℕ) → before ≡ left_in pairs.sets (byte_at text (at - 1))
    → meets (left_before pairs.sets before (rest_at text at) i) (right_in pairs.sets (get_or (rest_at text at) i 0)) ≡ stands_at pairs text (at + i)
stands-is pairs text at before i set =
    ap₂ meets (left-is pairs text at before i set) (ap (right_in pairs.sets) (rest-byte text at i))

special-is : (pairs : Neighbours) (text : List ℕ) (at before i : ℕ) → before ≡ left_in pairs.sets (byte_at text (at - 1))
    → meets (left_before pairs.sets before (rest_at text at) i) (bit_and (right_in pairs.sets (get_or (rest_at text at) i 0)) 3)
    ≡ is_special pairs (byte_at text (at + i - 1)) (byte_at text (at + i))
special-is pairs text at before i set =
    ap₂ meets (left-is pairs text at before i set) (ap (λ b. bit_and (right_in pairs.sets b) 3) (rest-byte text at i))

-- what the masks tell are the marks, with the bits behind the end of the text
pub are-marks : (pairs : Neighbours) (text : List ℕ) (at before special strays past : ℕ) (marks : Marks) → 0 < at → at ≤ length text
    → before ≡ left_in pairs.sets (byte_at text (at - 1)) → marks.stops ≡ bit_or (bit_or special strays) past
    → ((i : ℕ) → i < 64 → i < length (rest_at text at) → is_set marks.standing i ≡ meets (left_before pairs.sets before (rest_at text at) i) (right_in pairs.sets (get_or (rest_at text at) i 0)))
    → ((i : ℕ) → i < 64 → i < length (rest_at text at) → is_set special i ≡ meets (left_before pairs.sets before (rest_at text at) i) (bit_and (right_in pairs.sets (get_or (rest_at text at) i 0)) 3))
    → ((i : ℕ) → i < 64 → is_set strays i ≡ is_stray (rest_at text at) i)
    → ((i : ℕ) → i < 64 → is_set past i ≡ leb (length (rest_at text at)) i)
    → AreMarks pairs text at marks
are-marks pairs text at before special strays past marks begins within set both standing specials are_strays ends =
    let rest : length (rest_at text at) ≡ length text - at = rest-length text at in
    let any : (i : ℕ) → is_set marks.stops i ≡ ((is_set special i || is_set strays i) || is_set past i) =
    λ i. ap (λ n. is_set n i) both ∙ set-or (bit_or special strays) past i ∙ ap (λ b. b || is_set past i) (set-or special strays i) in
    record {
      begins = begins;
      standing = λ i h inside. standing i h (omega arith) ∙ stands-is pairs text at before i set;
      stops = λ i h inside.
          any i
          ∙ or-false (is_set special i || is_set strays i) (is_set past i) (ends i h ∙ lt-leb (length (rest_at text at)) i (omega arith))
          ∙ ap₂ (λ (x y : Bool). x || y) (specials i h (omega arith) ∙ special-is pairs text at before i set) (are_strays i h);
      ends = λ i h outside. any i ∙ or-all (is_set special i || is_set strays i) (is_set past i) (ends i h ∙ le-leb (length (rest_at text at)) i (omega arith));
    }
  where
    or-all : (some all : Bool) → all ≡ true → (some || all) ≡ true
    or-all true all is = refl
    or-all false all is = is

-- Bytes that are no strays

-- a first byte of two is not the last of the block, and the next goes on with it; one that goes on stands behind a first
record IsPlaced (text : List ℕ) (at i : ℕ) : Type 0 where
  first : 192 ≤ byte_at text (at + i) → (i < 63) × (128 ≤ byte_at text (at + suc i)) × (byte_at text (at + suc i) < 192)
  last : 128 ≤ byte_at text (at + i) → byte_at text (at + i) < 192 → (0 < i) × (192 ≤ byte_at text (at + i - 1))

pair-parts : (text : List ℕ) (at i : ℕ) → is_pair (rest_at text at) i ≡ true
    → (192 ≤ byte_at text (at + i)) × (i < 63) × (128 ≤ byte_at text (at + suc i)) × (byte_at text (at + suc i) < 192)
pair-parts text at i pair =
    let rest = rest_at text at in
    let all = and_parts (leb 192 (get_or rest i 0)) _ pair in
    let more = and_parts (ltb i 63) _ all.1 in
    let next = and_parts (leb 128 (get_or rest (i + 1) 0)) _ more.1 in
    let here = rest-byte text at i in
    let there : get_or rest (i + 1) 0 ≡ byte_at text (at + suc i) = rest-byte text at (i + 1) ∙ ap (byte_at text) (let e : at + (i + 1) ≡ at + suc i = omega arith in e) in
    let first = leb-true 192 (get_or rest i 0) all.0 in
    let few = ltb-true i 63 more.0 in
    let least = leb-true 128 (get_or rest (i + 1) 0) next.0 in
    let below = ltb-true (get_or rest (i + 1) 0) 192 next.1 in
    (omega arith, few, omega arith, omega arith)

-- where a byte from 128 on is no stray
not-stray : (wide pair second : Bool) → (wide && not (pair || second)) ≡ false → wide ≡ true → (pair ≡ true) ⊎ (second ≡ true)
not-stray wide true second none is = inl refl
not-stray wide false true none is = inr refl
not-stray true false false none is = absurd (let never : ⊥ = cc in never)
not-stray false false false none is = absurd (let never : ⊥ = cc in never)

pair-or-second : (text : List ℕ) (at i : ℕ) → is_stray (rest_at text at) i ≡ false → 128 ≤ byte_at text (at + i)
    → (is_pair (rest_at text at) i ≡ true) ⊎ (is_second (rest_at text at) i ≡ true)
pair-or-second text at i none wide =
    let rest = rest_at text at in
    let same = rest-byte text at i in
    not-stray (leb 128 (get_or rest i 0)) (is_pair rest i) (is_second rest i) none (le-leb 128 (get_or rest i 0) (omega arith))

-- the second of two stands behind the first
second-parts : (text : List ℕ) (at i : ℕ) → is_second (rest_at text at) i ≡ true → (0 < i) × (192 ≤ byte_at text (at + i - 1)) × (byte_at text (at + i) < 192)
second-parts text at zero is = absurd (let never : ⊥ = cc in never)
second-parts text at (suc i) is =
    let parts = pair-parts text at i is in
    let back : at + i ≡ at + suc i - 1 = omega arith in
    (omega arith, subst (λ n. 192 ≤ byte_at text n) back parts.0, parts.3)

placed : (text : List ℕ) (at i : ℕ) → is_stray (rest_at text at) i ≡ false → IsPlaced text at i
placed text at i none = record {
  first = λ high.
      ⊎_elim (λ pair. (let parts = pair-parts text at i pair in (parts.1, parts.2, parts.3)))
      (λ second. absurd (let parts = second-parts text at i second in let below = parts.2 in omega arith))
      (pair-or-second text at i none (omega arith));
  last = λ least below.
      ⊎_elim (λ pair. absurd (let parts = pair-parts text at i pair in let high = parts.0 in omega arith))
      (λ second. (let parts = second-parts text at i second in (parts.0, parts.1)))
      (pair-or-second text at i none least);
}

no-stray : (wide pair second : Bool) → second ≡ true → (wide && not (pair || second)) ≡ false
no-stray true true second is = refl
no-stray true false true is = refl
no-stray true false false is = absurd (let never : ⊥ = cc in never)
no-stray false pair second is = refl

-- a byte that goes on with the first before it is none
second-is : (text : List ℕ) (at i : ℕ) → i < 63 → 192 ≤ byte_at text (at + i) → 128 ≤ byte_at text (at + suc i) → byte_at text (at + suc i) < 192
    → is_stray (rest_at text at) (suc i) ≡ false
second-is text at i few high least below =
    let rest = rest_at text at in
    let here = rest-byte text at i in
    let there : get_or rest (i + 1) 0 ≡ byte_at text (at + suc i) = rest-byte text at (i + 1) ∙ ap (byte_at text) (let e : at + (i + 1) ≡ at + suc i = omega arith in e) in
    let pair : is_pair rest i ≡ true =
    and_from (leb 192 (get_or rest i 0)) _ (le-leb 192 (get_or rest i 0) (omega arith))
    (and_from (ltb i 63) _ (lt-ltb i 63 few)
    (and_from (leb 128 (get_or rest (i + 1) 0)) (ltb (get_or rest (i + 1) 0) 192) (le-leb 128 (get_or rest (i + 1) 0) (omega arith))
    (lt-ltb (get_or rest (i + 1) 0) 192 (omega arith)))) in
    no-stray (leb 128 (get_or rest (suc i) 0)) (is_pair rest (suc i)) (is_pair rest i) pair

-- a byte of a text other than 0 stands in it
byte-inside : (text : List ℕ) (place : ℕ) → 0 < byte_at text place → place < length text
byte-inside text place some =
    ⊎_elim (λ (inside : place < length text). inside)
    (λ (past : length text ≤ place). absurd (let none = get_or_past text place 0 past in omega arith))
    (cases_lt place (length text))

-- the byte before a place has a row, and stands for its scalar if it is the first of two, whose second is then here
record IsBehind (kinds : List ℕ) (pairs : Neighbours) (text : List ℕ) (place : ℕ) : Type 0 where
  starts : IsPlace (get_or pairs.rows (byte_at text (place - 1)) 0)
  stands : 192 ≤ byte_at text (place - 1) → StandsForAll kinds pairs.rows pairs.sets (byte_at text (place - 1))
  follows : 192 ≤ byte_at text (place - 1) → (128 ≤ byte_at text place) × (byte_at text place < 192)

meets-none : (left right : ℕ) → right ≡ 0 → meets left right ≡ false
meets-none left right none =
    not_from_true (bit_and left right == 0) (eq-eqb (bit_and left right) 0 (let most = and_le_r left right in omega arith))

-- the second of two never stands out
quiet-last : (kinds : List ℕ) (pairs : Neighbours) (text : List ℕ) (place : ℕ) → IsBehind kinds pairs text place
    → 192 ≤ byte_at text (place - 1) → right_in pairs.sets (byte_at text place) ≡ 0
quiet-last kinds pairs text place behind high =
    let last = behind.follows high in
    let least = last.0 in
    let below = last.1 in
    let byte = byte_at text place in
    let same : 128 + (byte - 128) ≡ byte = omega arith in
    ap (right_in pairs.sets) (sym same) ∙ ((behind.stands high).each (byte - 128) (omega arith)).quiet

byte-told : (steps : List (List Step)) (kinds : List ℕ) (pairs : Neighbours) (text : List ℕ) (at i : ℕ)
    → AreTold steps kinds pairs → byte_at text (at + i) < 256 → IsBehind kinds pairs text (at + i) → IsPlaced text at i
    → is_special pairs (byte_at text (at + i - 1)) (byte_at text (at + i)) ≡ false
    → IsByteTold steps kinds pairs text (at + i)
byte-told steps kinds pairs text at i told fits behind place plain =
    let before = byte_at text (at + i - 1) in
    let byte = byte_at text (at + i) in
    record {
      settled = λ begins.
          let low : before < 192 = ⊎_elim (λ (l : before < 192). l)
          (λ (high : 192 ≤ before). absurd (let last = behind.follows high in let least = last.0 in let below = last.1 in
          ⊎_elim (λ (a : byte < 128). omega arith) (λ (b : 192 ≤ byte). omega arith) begins)) (cases_lt before 192) in
          (low, told before byte low fits begins behind.starts plain);
      goes_on = λ high.
          let next = place.first high in
          let same : at + suc i ≡ at + i + 1 = omega arith in
          let inside = byte-inside text (at + suc i) (omega (arith, next.1)) in
          record { least = subst (λ n. 128 ≤ byte_at text n) same next.1; below = subst (λ n. byte_at text n < 192) same next.2; within = omega arith };
      quiet = λ least below.
          let high = (place.last least below).1 in
          (high, meets-none (left_in pairs.sets before) (right_in pairs.sets byte) (quiet-last kinds pairs text (at + i) behind high));
    }

-- a first byte of two that is settled stands for its scalars
stands-for : (steps : List (List Step)) (kinds : List ℕ) (pairs : Neighbours) (before byte : ℕ) → 192 ≤ byte → AreSettled steps kinds pairs before byte
    → StandsForAll kinds pairs.rows pairs.sets byte
stands-for steps kinds pairs before byte high settled =
    ⊎_elim (λ (low : byte < 128). absurd (omega arith)) (λ (stands : StandsForAll kinds pairs.rows pairs.sets byte). stands) settled.begins

behind-next : (profile : Profile) (cell : ℕ → Cell) (steps : List (List Step)) (kinds : List ℕ) (pairs : Neighbours) (text : List ℕ) (at i : ℕ)
    → steps ≡ steps_in profile → AreFlatKinds kinds cell → byte_at text (at + i) < 256 → IsBehind kinds pairs text (at + i) → IsPlaced text at i
    → IsByteTold steps kinds pairs text (at + i)
    → IsBehind kinds pairs text (at + suc i)
behind-next profile cell steps kinds pairs text at i are are_kinds fits behind place told =
    let byte = byte_at text (at + i) in
    let kind = get_or kinds byte 0 in
    let row = row_before pairs text (at + i) in
    let step = swift-step profile steps row kind are (place-any (get_or pairs.rows (byte_at text (at + i - 1)) 0)) in
    let back : at + i ≡ at + suc i - 1 = omega arith in
    let starts : IsPlace (get_or pairs.rows byte 0) =
    ⊎_elim (λ (begins : (byte < 128) ⊎ (192 ≤ byte)). subst IsPlace (told.settled begins).1.leads step.begins)
    (λ (last : (128 ≤ byte) × (byte < 192)).
    let high = (place.last last.0 last.1).1 in
    let least = last.0 in
    let below = last.1 in
    let same : 128 + (byte - 128) ≡ byte = omega arith in
    let leads = ((behind.stands high).each (byte - 128) (omega arith)).leads in
    subst IsPlace (sym leads ∙ ap (λ n. get_or pairs.rows n 0) same) behind.starts)
    (begins-or byte) in
    record {
      starts = subst (λ n. IsPlace (get_or pairs.rows (byte_at text n) 0)) back starts;
      stands = λ high.
          let first : 192 ≤ byte = subst (λ n. 192 ≤ byte_at text n) (sym back) high in
          subst (λ n. StandsForAll kinds pairs.rows pairs.sets (byte_at text n)) back (stands-for steps kinds pairs (byte_at text (at + i - 1)) byte first (told.settled (inr first)).1);
      follows = λ high.
          let next = place.first (subst (λ n. 192 ≤ byte_at text n) (sym back) high) in
          (next.1, next.2);
    }

-- what is known of the bytes of a block that are taken
record Begun (steps : List (List Step)) (kinds : List ℕ) (pairs : Neighbours) (text : List ℕ) (at begin taken : ℕ) : Type 0 where
  told : AreTold steps kinds pairs
  bytes : (i : ℕ) → byte_at text i < 256
  plain : (i : ℕ) → begin ≤ i → i < taken → is_special pairs (byte_at text (at + i - 1)) (byte_at text (at + i)) ≡ false
  stays : (i : ℕ) → begin ≤ i → i < taken → is_stray (rest_at text at) i ≡ false

behind-each : (profile : Profile) (cell : ℕ → Cell) (steps : List (List Step)) (kinds : List ℕ) (pairs : Neighbours) (text : List ℕ) (at begin taken : ℕ)
    → steps ≡ steps_in profile → AreFlatKinds kinds cell → Begun steps kinds pairs text at begin taken
    → IsBehind kinds pairs text (at + begin) → (n : ℕ) → begin + n ≤ taken → IsBehind kinds pairs text (at + (begin + n))
behind-each profile cell steps kinds pairs text at begin taken swift are_kinds begun begins zero h =
    subst (IsBehind kinds pairs text) (let e : at + begin ≡ at + (begin + 0) = omega arith in e) begins
behind-each profile cell steps kinds pairs text at begin taken swift are_kinds begun begins (suc n) h =
    let i = begin + n in
    let after : begin ≤ i = omega arith in
    let inside : i < taken = omega (arith, h) in
    let behind = behind-each profile cell steps kinds pairs text at begin taken swift are_kinds begun begins n (omega (arith, h)) in
    let place = placed text at i (begun.stays i after inside) in
    subst (IsBehind kinds pairs text) (let e : at + suc (begin + n) ≡ at + (begin + suc n) = omega arith in e)
    (behind-next profile cell steps kinds pairs text at i swift are_kinds (begun.bytes (at + i)) behind place
    (byte-told steps kinds pairs text at i begun.told (begun.bytes (at + i)) behind place (begun.plain i after inside)))

behind-at : (profile : Profile) (cell : ℕ → Cell) (steps : List (List Step)) (kinds : List ℕ) (pairs : Neighbours) (text : List ℕ) (at begin taken : ℕ)
    → steps ≡ steps_in profile → AreFlatKinds kinds cell → Begun steps kinds pairs text at begin taken
    → IsBehind kinds pairs text (at + begin) → (i : ℕ) → begin ≤ i → i ≤ taken → IsBehind kinds pairs text (at + i)
behind-at profile cell steps kinds pairs text at begin taken swift are_kinds begun begins i after h =
    let same : begin + (i - begin) ≡ i = omega arith in
    subst (λ n. IsBehind kinds pairs text (at + n)) same
    (behind-each profile cell steps kinds pairs text at begin taken swift are_kinds begun begins (i - begin) (omega arith))

neither : (one other : Bool) → one ≡ false → other ≡ false → (one || other) ≡ true → ⊥
neither false false a b is = cc
neither true other a b is = cc
neither false true a b is = cc

-- the last byte that is taken is the last of a scalar: the first of two is followed by what is neither special nor stray
last-ends : (kinds : List ℕ) (pairs : Neighbours) (text : List ℕ) (at begin taken : ℕ) → begin ≤ taken
    → byte_at text (at + begin - 1) < 192 → ((i : ℕ) → begin ≤ i → i < taken → is_stray (rest_at text at) i ≡ false) → taken ≤ 64
    → (taken < 64 → at + taken < length text → stops_at pairs text at taken ≡ true)
    → IsBehind kinds pairs text (at + taken) → byte_at text (at + taken - 1) < 192
last-ends kinds pairs text at begin zero some low stays few stops behind =
    subst (λ n. byte_at text n < 192) (let e : at + begin - 1 ≡ at + 0 - 1 = omega arith in e) low
last-ends kinds pairs text at begin (suc i) some low stays few stops behind =
    ⊎_elim (λ (below : byte_at text (at + suc i - 1) < 192). below)
    (λ (high : 192 ≤ byte_at text (at + suc i - 1)).
    ⊎_elim
    (λ (after : begin ≤ i).
    let back : at + i ≡ at + suc i - 1 = omega arith in
    let first : 192 ≤ byte_at text (at + i) = subst (λ n. 192 ≤ byte_at text n) (sym back) high in
    let next = (placed text at i (stays i after (omega arith))).first first in
    let inside = next.0 in
    let stray = second-is text at i next.0 first next.1 next.2 in
    let special : is_special pairs (byte_at text (at + suc i - 1)) (byte_at text (at + suc i)) ≡ false =
    meets-none (left_in pairs.sets (byte_at text (at + suc i - 1))) (bit_and (right_in pairs.sets (byte_at text (at + suc i))) 3)
    (ap (λ n. bit_and n 3) (quiet-last kinds pairs text (at + suc i) behind high)) in
    let stopped = stops (omega arith) (byte-inside text (at + suc i) (omega (arith, next.1))) in
    absurd (neither (is_special pairs (byte_at text (at + suc i - 1)) (byte_at text (at + suc i))) (is_stray (rest_at text at) (suc i)) special stray stopped))
    (λ (only : i < begin).
    let same : at + begin - 1 ≡ at + suc i - 1 = omega arith in
    subst (λ n. byte_at text n < 192) same low)
    (order i begin))
    (cases_lt (byte_at text (at + suc i - 1)) 192)

-- from a place whose row is that of the byte before, the bytes up to the next that is left to steps
pub is-block : (profile : Profile) (cell : ℕ → Cell) (steps : List (List Step)) (kinds : List ℕ) (pairs : Neighbours) (text : List ℕ) (at begin taken : ℕ) (marks : Marks) (here : FillState)
    → steps ≡ steps_in profile → AreFlatKinds kinds cell → AreTold steps kinds pairs → ((i : ℕ) → byte_at text i < 256)
    → AreMarks pairs text at marks → Rests pairs here text → here.at ≡ at + begin → begin ≤ taken → taken ≤ 64 → at + taken ≤ length text
    → IsPlace here.row
    → ((i : ℕ) → begin ≤ i → i < taken → is_set marks.stops i ≡ false)
    → (taken < 64 → is_set marks.stops taken ≡ true)
    → IsBlock profile cell steps kinds pairs text at begin taken
is-block profile cell steps kinds pairs text at begin taken marks here swift are_kinds told bytes are_marks rests is_at some few within starts none stopped =
    let low : byte_at text (at + begin - 1) < 192 = subst (λ n. byte_at text (n - 1) < 192) is_at rests.below in
    let begins : IsBehind kinds pairs text (at + begin) = record {
      starts = subst (λ n. IsPlace (get_or pairs.rows (byte_at text (n - 1)) 0)) is_at (subst IsPlace rests.row starts);
      stands = λ high. absurd (omega arith);
      follows = λ high. absurd (omega arith);
    } in
    let each : (i : ℕ) → begin ≤ i → i < taken
    → (is_special pairs (byte_at text (at + i - 1)) (byte_at text (at + i)) ≡ false) × (is_stray (rest_at text at) i ≡ false) =
    λ i after h. or_parts (is_special pairs (byte_at text (at + i - 1)) (byte_at text (at + i))) (is_stray (rest_at text at) i)
    (sym (are_marks.stops i (omega arith) (omega arith)) ∙ none i after h) in
    let begun : Begun steps kinds pairs text at begin taken =
    record { told = told; bytes = bytes; plain = λ i after h. (each i after h).0; stays = λ i after h. (each i after h).1 } in
    let behind = behind-at profile cell steps kinds pairs text at begin taken swift are_kinds begun begins in
    record {
      steps_are = swift;
      kinds_are = are_kinds;
      few = few;
      within = within;
      told = λ i after h. byte-told steps kinds pairs text at i told (bytes (at + i)) (behind i after (omega (arith, h))) (placed text at i (begun.stays i after h)) (begun.plain i after h);
      ends = last-ends kinds pairs text at begin taken some low begun.stays few (λ h inside. sym (are_marks.stops taken h inside) ∙ stopped h) (behind taken some (omega arith));
    }
