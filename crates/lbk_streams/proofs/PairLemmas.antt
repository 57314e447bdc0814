-- Where the scalars of a text in UTF-16 begin.
use Rattle.std.proofs.Common.{◌≡◌, ℕ, zero, suc, ◌+◌, ◌-◌, ◌<◌, ◌≤◌, ◌⊎◌, ⊎_elim, Bool, true, false, cond, ◌&&◌, nat_le, nat_lt, Some, None, List, [], ◌∷◌, ◌++◌, length, map, take, drop, get_or, refl, sym, ap, ap₂, subst, ◌∙◌, append-nil, arith, length-append, length-drop, length-take-le, get_or-take}
use Rattle.std.specs.Char.Utf16.{lone_unit_char, surrogate_pair_char, utf16_chars}
use Rattle.std.proofs.lemmas.Bool.{cases_lt}
use Rattle.std.proofs.lemmas.Bool.Decides.{nat_tests}
use Rattle.std.proofs.lemmas.List.{drop-take, get_or-drop, get_or_past, length-map, map-append}
use Rattle.std.proofs.Math.Seq.{drop-length, take-length}
use Rattle.std.proofs.lemmas.Str.{utf16_chars-nil, utf16_chars_lone}
use Rattle.bstr.specs.Utf8.{Decoded, or_replacement}
use Rattle.bstr.proofs.lemmas.PieceLemmas.{sizes}
use Rattle.lbk_rules.specs.declared.Cell.{Cell}
use Rattle.lbk_values.specs.declared.profile.Profile.{Profile}
use Rattle.lbk_rules.specs.Ends.{ends_between}
use Rattle.lbk_rules.specs.Joins.{must_end_between}
use Rattle.lbk_bytes.specs.Reached.{scalars_of}
use Rattle.lbk_bytes.specs.declared.unit.UnitScalar.{UnitScalar}
use Rattle.lbk_units.specs.Front.{IsFront}
use Rattle.lbk_units.specs.Units.{pieces_of_utf16, utf16_piece}
use Rattle.lbk_bytes.proofs.UnitLemmas.{IsFrontAt}
use Rattle.lbk_bytes.proofs.WideLemmas.{IsPair, one-unit, pair-begins, two-units}
use Rattle.lbk_streams.specs.Cuts.{BeginsIn, EndsIn, IsSafeIn, JoinsIn}
use Rattle.lbk_streams.specs.Looking.{EndsInScalar, is_pair}
use Rattle.lbk_streams.proofs.JoinLemmas.{joins-in}
use Rattle.lbk_streams.proofs.SafeLemmas.{must_end_between-snoc}

pair-numbers : (u v : ℕ) → is_pair u v ≡ true → IsPair u v
pair-numbers u v pair = grind (arith, nat_tests)

-- the second of a pair begins none
low-begins : (u v : ℕ) (us : List ℕ) → is_pair u v ≡ true → utf16_chars (v ∷ us) ≡ lone_unit_char v ∷ utf16_chars us
low-begins u v us pair = let p = pair-numbers u v pair in utf16_chars_lone v us (λ other. (let no : ⊥ = omega (arith, p.2, other.1) in no))

not-both : (b : Bool) → (b ≡ true → ⊥) → b ≡ false
not-both true none = absurd (none refl)
not-both false none = refl

no-pair-behind : (u v w : ℕ) → is_pair u v ≡ true → is_pair v w ≡ true → ⊥
no-pair-behind u v w pair other =
    let p = pair-numbers u v pair in
    let q = pair-numbers v w other in
    let no : ⊥ = omega (arith, p.2, q.1) in
    no

-- cut where no pair stands, a text has the scalars before the cut and those behind it
chars-cut : (text : List ℕ) (place : ℕ) → ((k : ℕ) → suc k ≡ place → is_pair (get_or text k 0) (get_or text (suc k) 0) ≡ false)
    → utf16_chars text ≡ utf16_chars (take place text) ++ utf16_chars (drop place text)
unfolding utf16_chars
chars-cut text zero apart = refl
chars-cut [] (suc n) apart = refl
chars-cut (u ∷ []) (suc zero) apart = refl
chars-cut (u ∷ []) (suc (suc n)) apart = refl
chars-cut (u ∷ v ∷ us) (suc zero) apart =
    ap (λ b. cond b (Some (surrogate_pair_char u v) ∷ utf16_chars us) (lone_unit_char u ∷ utf16_chars (v ∷ us))) (apart zero refl)
chars-cut (u ∷ v ∷ us) (suc (suc n)) apart =
    let pair = Some (surrogate_pair_char u v) in
    let lone = lone_unit_char u in
    elim (is_pair u v)
    as (λ b. cond b (pair ∷ utf16_chars us) (lone ∷ utf16_chars (v ∷ us))
    ≡ cond b (pair ∷ utf16_chars (take n us)) (lone ∷ utf16_chars (v ∷ take n us)) ++ utf16_chars (drop n us)) [
      | true ↦ ap (λ l. pair ∷ l) (chars-cut us n (λ k is. apart (suc (suc k)) (ap (λ m. suc (suc m)) is)))
      | false ↦ ap (λ l. lone ∷ l) (chars-cut (v ∷ us) (suc n) (λ k is. apart (suc k) (ap suc is)))
    ]

-- cut within a pair, it has one more
chars-within : (text : List ℕ) (k : ℕ) → suc k < length text → is_pair (get_or text k 0) (get_or text (suc k) 0) ≡ true
    → length (utf16_chars (take (suc k) text)) + length (utf16_chars (drop (suc k) text)) ≡ length (utf16_chars text) + 1
unfolding utf16_chars
chars-within [] k less pair = absurd (omega arith)
chars-within (u ∷ []) k less pair = absurd (omega arith)
chars-within (u ∷ v ∷ us) zero less pair =
    let behind = ap length (low-begins u v us pair) in
    let whole = ap (λ b. length (cond b (Some (surrogate_pair_char u v) ∷ utf16_chars us) (lone_unit_char u ∷ utf16_chars (v ∷ us)))) pair in
    omega arith
chars-within (u ∷ v ∷ us) (suc zero) less pair =
    let lone = lone_unit_char u in
    let apart : is_pair u v ≡ false = not-both (is_pair u v) (λ is. no-pair-behind u v (get_or us 0 0) is pair) in
    let whole = ap (λ b. length (cond b (Some (surrogate_pair_char u v) ∷ utf16_chars us) (lone ∷ utf16_chars (v ∷ us)))) apart in
    let front = ap (λ b. length (cond b (Some (surrogate_pair_char u v) ∷ []) (lone ∷ lone_unit_char v ∷ []))) apart in
    let rest = chars-within (v ∷ us) zero (omega arith) pair in
    omega arith
chars-within (u ∷ v ∷ us) (suc (suc k)) less pair =
    let two = Some (surrogate_pair_char u v) in
    let lone = lone_unit_char u in
    elim (is_pair u v)
    as (λ b. length (cond b (two ∷ utf16_chars (take (suc k) us)) (lone ∷ utf16_chars (v ∷ take (suc k) us))) + length (utf16_chars (drop (suc k) us))
    ≡ length (cond b (two ∷ utf16_chars us) (lone ∷ utf16_chars (v ∷ us))) + 1) [
      | true ↦ let rest = chars-within us k (omega arith) pair in omega arith
      | false ↦ let rest = chars-within (v ∷ us) (suc k) (omega arith) pair in omega arith
    ]

-- the units on both sides of a place are no pair
abbrev pub IsApart : List ℕ → ℕ → Type 0
IsApart text place = 0 < place → is_pair (get_or text (place - 1) 0) (get_or text place 0) ≡ false

pub begins-apart : (text : List ℕ) (place : ℕ) → IsApart text place → BeginsIn pieces_of_utf16 text place
begins-apart text place apart =
    ap (map utf16_piece)
    (chars-cut text place (λ k is.
    let before : place - 1 ≡ k = omega arith in
    subst (λ n. is_pair (get_or text k 0) (get_or text n 0) ≡ false) (sym is)
    (subst (λ n. is_pair (get_or text n 0) (get_or text place 0) ≡ false) before (apart (omega arith)))))
    ∙ map-append utf16_piece (utf16_chars (take place text)) (utf16_chars (drop place text))

pub none-in-pair : (text : List ℕ) (place : ℕ) → 0 < place → place < length text → is_pair (get_or text (place - 1) 0) (get_or text place 0) ≡ true
    → ¬ (BeginsIn pieces_of_utf16 text place)
none-in-pair text place some inside pair begins =
    let k = place - 1 in
    let next : suc k ≡ place = omega arith in
    let more = subst (λ n. length (utf16_chars (take n text)) + length (utf16_chars (drop n text)) ≡ length (utf16_chars text) + 1) next
    (chars-within text k (omega arith) (subst (λ n. is_pair (get_or text k 0) (get_or text n 0) ≡ true) (sym next) pair)) in
    let before = utf16_chars (take place text) in
    let behind = utf16_chars (drop place text) in
    let same = ap length begins in
    let all = length-map (utf16_chars text) utf16_piece in
    let one = length-map before utf16_piece in
    let other = length-map behind utf16_piece in
    let sum = length-append (map utf16_piece before) (map utf16_piece behind) in
    omega arith

-- before a pair no other stands
pub apart-before : (text : List ℕ) (start : ℕ) → is_pair (get_or text start 0) (get_or text (start + 1) 0) ≡ true → IsApart text start
apart-before text start pair =
    λ some. not-both (is_pair (get_or text (start - 1) 0) (get_or text start 0))
    (λ other. no-pair-behind (get_or text (start - 1) 0) (get_or text start 0) (get_or text (start + 1) 0) other pair)

-- what begins in the last one or two units before a place
pub last-by : (text : List ℕ) (place start : ℕ) (found : UnitScalar) → start < place → place ≤ length text → IsApart text start
    → IsFront pieces_of_utf16 (take (place - start) (drop start text)) found
    → (place - start ≡ 1) ⊎ ((place - start ≡ 2) × (is_pair (get_or text start 0) (get_or text (start + 1) 0) ≡ true))
    → EndsInScalar text place found.scalar
last-by text place start found before within apart front size =
    let t = take place text in
    let n = place - start in
    let units = take n (drop start text) in
    let split : start + n ≡ place = omega arith in
    let behind : drop start t ≡ units = ap (λ m. drop start (take m text)) (sym split) ∙ drop-take start n text in
    let left = length-drop start text in
    let many : length units ≡ n = length-take-le n (drop start text) (omega arith) in
    let none : drop n units ≡ [] = drop-all units n (omega arith) in
    let whole : pieces_of_utf16 units ≡ front.piece ∷ [] =
    ⊎_elim
    (λ one.
    let fits : found.size ≡ n = omega (arith, front.some, front.within) in
    front.begins ∙ ap (λ m. front.piece ∷ pieces_of_utf16 (drop m units)) fits ∙ ap (λ l. front.piece ∷ pieces_of_utf16 l) none ∙ ap (λ l. front.piece ∷ map utf16_piece l) utf16_chars-nil)
    (λ two.
    let first : get_or units 0 0 ≡ get_or text start 0 = unit-at 0 (omega arith) ∙ ap (λ m. get_or text m 0) (let same : start + 0 ≡ start = omega arith in same) in
    let second : get_or units 1 0 ≡ get_or text (start + 1) 0 = unit-at 1 (omega arith) in
    let pair : IsPair (get_or units 0 0) (get_or units 1 0) = pair-numbers (get_or units 0 0) (get_or units 1 0) (ap₂ is_pair first second ∙ two.1) in
    let is = pair-begins units (omega arith) pair in
    let q = utf16_piece (Some (surrogate_pair_char (get_or units 0 0) (get_or units 1 0))) in
    let alone : pieces_of_utf16 units ≡ q ∷ [] =
    is ∙ ap (λ m. q ∷ pieces_of_utf16 (drop m units)) (sym two.0) ∙ ap (λ l. q ∷ pieces_of_utf16 l) none ∙ ap (λ l. q ∷ map utf16_piece l) utf16_chars-nil in
    let same : front.piece ∷ pieces_of_utf16 (drop found.size units) ≡ q ∷ [] = sym front.begins ∙ alone in
    let head : front.piece ≡ q = cc in
    alone ∙ ap (λ p. p ∷ []) (sym head))
    size in
    let cut : IsApart t start =
    λ some. ap₂ is_pair (get_or-take place text (start - 1) 0 (omega arith)) (get_or-take place text start 0 before) ∙ apart some in
    let all = begins-apart t start cut in
    record {
      front = scalars_of (pieces_of_utf16 (take start t));
      scalars =
          ap scalars_of (all ∙ ap (λ l. pieces_of_utf16 (take start t) ++ pieces_of_utf16 l) behind ∙ ap (λ l. pieces_of_utf16 (take start t) ++ l) whole)
          ∙ map-append (λ (p : Decoded). or_replacement p.char) (pieces_of_utf16 (take start t)) (front.piece ∷ [])
          ∙ ap (λ c. scalars_of (pieces_of_utf16 (take start t)) ++ c ∷ []) front.reads;
    }
  where
    drop-all : (l : List ℕ) (m : ℕ) → m ≡ length l → drop m l ≡ []
    drop-all [] zero same = refl
    drop-all [] (suc m) same = refl
    drop-all (x ∷ xs) zero same = absurd (omega arith)
    drop-all (x ∷ xs) (suc m) same = drop-all xs m (omega arith)

    unit-at : (i : ℕ) → i < place - start → get_or (take (place - start) (drop start text)) i 0 ≡ get_or text (start + i) 0
    unit-at i few = get_or-take (place - start) (drop start text) i 0 few ∙ get_or-drop start text i 0

module _ (cell : ℕ → Cell) (text : List ℕ) (place last : ℕ) (next : UnitScalar) (before : EndsInScalar text place last)
    (front : IsFrontAt pieces_of_utf16 text place next) where
  -- the two scalars tell whether a line must end there
  pub told-by : must_end_between cell (scalars_of (pieces_of_utf16 (take place text))) (scalars_of (pieces_of_utf16 (drop place text)))
      ≡ ends_between (cell last).class (cell next.scalar).class
  told-by =
      let rest = scalars_of (pieces_of_utf16 (drop (place + next.size) text)) in
      ap₂ (must_end_between cell) before.scalars (ap scalars_of front.begins ∙ ap (λ c. c ∷ rest) front.reads)
      ∙ must_end_between-snoc cell before.front last next.scalar rest

-- within a text a part may begin just where a line must end
pub safe-inside : (cell : ℕ → Cell) (text : List ℕ) (place : ℕ) → 0 < place → place < length text → IsSafeIn pieces_of_utf16 cell text place
    → EndsIn pieces_of_utf16 cell text place
safe-inside cell text place some inside safe =
    ⊎_elim (λ start. absurd (let no : ⊥ = omega arith in no))
    (⊎_elim (λ end. absurd (let no : ⊥ = omega arith in no)) (λ ends. ends)) safe

pub begins-last : (text : List ℕ) → BeginsIn pieces_of_utf16 text (length text)
begins-last text =
    sym (ap (λ l. pieces_of_utf16 l ++ pieces_of_utf16 (drop (length text) text)) (take-length text)
    ∙ ap (λ l. pieces_of_utf16 text ++ pieces_of_utf16 l) (drop-length text)
    ∙ ap (λ l. pieces_of_utf16 text ++ map utf16_piece l) utf16_chars-nil
    ∙ append-nil (pieces_of_utf16 text))

-- units of 16 bits

lone-size : (u : ℕ) → u < 65536 → (utf16_piece (lone_unit_char u)).size ≡ 1
lone-size u few =
    elim (nat_le 0xD800 u && nat_lt u 0xE000)
    as (λ b. (utf16_piece (cond b None (Some u))).size ≡ 1)
    [ true ↦ refl | false ↦ one-unit u few ]

pub utf16-sizes : (units : List ℕ) → ((k : ℕ) → get_or units k 0 < 65536) → sizes (pieces_of_utf16 units) ≡ length units
unfolding utf16_chars sizes
utf16-sizes [] fits = refl
utf16-sizes (u ∷ []) fits = let size = lone-size u (fits 0) in omega arith
utf16-sizes (u ∷ v ∷ us) fits =
    let x = surrogate_pair_char u v in
    let lone = lone_unit_char u in
    elim (is_pair u v)
    as (λ b. sizes (map utf16_piece (cond b (Some x ∷ utf16_chars us) (lone ∷ utf16_chars (v ∷ us)))) ≡ suc (suc (length us))) [
      | true ↦ let rest = utf16-sizes us (λ k. fits (suc (suc k))) in let size = two-units x (omega arith) in omega arith
      | false ↦ let rest = utf16-sizes (v ∷ us) (λ k. fits (suc k)) in let size = lone-size u (fits 0) in omega arith
    ]

pub sizes-before : (text : List ℕ) (place : ℕ) → place ≤ length text → ((k : ℕ) → get_or text k 0 < 65536) → sizes (pieces_of_utf16 (take place text)) ≡ place
sizes-before text place within fits =
    utf16-sizes (take place text) (λ k.
    ⊎_elim (λ before. subst (λ n. n < 65536) (sym (get_or-take place text k 0 before)) (fits k))
    (λ behind. subst (λ n. n < 65536) (sym (get_or_past (take place text) k 0 (omega (arith, length-take-le place text within)))) (omega arith))
    (cases_lt k place))
    ∙ length-take-le place text within

-- at a place within a text a part may begin only where the breaks join
pub joins-pair : (profile : Profile) (cell : ℕ → Cell) (text : List ℕ) (place : ℕ) → ((k : ℕ) → get_or text k 0 < 65536) → 0 < place → place < length text
    → IsSafeIn pieces_of_utf16 cell text place → JoinsIn pieces_of_utf16 profile cell text place
joins-pair profile cell text place fits some inside safe =
    joins-in profile cell pieces_of_utf16 text place (sizes-before text place (omega arith) fits) (safe-inside cell text place some inside safe)
