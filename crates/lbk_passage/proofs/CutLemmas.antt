-- The segments of several passages at once, by the breaks of a text.
use Rattle.std.proofs.Common.{◌≡◌, ℕ, ◌+◌, ◌-◌, ◌<◌, ◌≤◌, Bool, true, false, cond, List, [], ◌∷◌, ◌++◌, map, length, take, drop, get_or, append_assoc, refl, sym, ap, ap₂, subst, ◌∙◌, arith}
use Rattle.std.specs.Char.{encode_utf8}
use Rattle.std.specs.Str.{IsUtf8, chars, encode_utf8_all}
use Rattle.std.proofs.Math.ListN.{set}
use Rattle.std.proofs.lemmas.Bool.{false≢true}
use Rattle.std.proofs.lemmas.List.{append_cancel_left, drop_more, get_or-map, get_or-take, length-append, length-map, take-append-drop, take-set, take_at, take_more_set}
use Rattle.std.proofs.lemmas.List.Elements.{All-cons, All-head, All-nil, All-tail}
use Rattle.std.proofs.lemmas.Str.{encodes-chars}
use Rattle.lbk_rules.specs.declared.Break.{Break}
use Rattle.lbk_rules.specs.declared.Cell.{Cell}
use Rattle.lbk_rules.specs.declared.Kind.{Kind}
use Rattle.lbk_rules.specs.declared.Kind.TheVariants.{No, May, Must}
use Rattle.lbk_rules.specs.Breaks.{break_by, breaks, breaks_from, is_no}
use Rattle.lbk_rules.specs.Joins.{moved}
use Rattle.lbk_rules.specs.Marks.{Marked, marks_behind, scalars_of}
use Rattle.lbk_rules.proofs.MarkLemmas.{scalars-behind}
use Rattle.lbk_values.specs.declared.profile.Profile.{Profile}
use Rattle.lbk_bytes.specs.declared.raw_break.RawBreak.{RawBreak}
use Rattle.lbk_bytes.specs.Order.{no_break}
use Rattle.lbk_bytes.specs.Shown.{given_in, shown}
use Rattle.lbk_bytes.proofs.ReachedLemmas.{given-many}
use Rattle.lbk_passage.specs.Cuts.{AreRising, cut_at, cut_on, musts}
use Rattle.lbk_passage.specs.Passages.{is_must}
use Rattle.lbk_passage.specs.declared.passage.Segment.{Segment}
use Rattle.lbk_passage.proofs.FirstEnds.{NoneMust}

-- two lists that are joined, and others of the same lengths
pub record SameHalves {X : Type 0} (xs ys cs ds : List X) : Type 0 where
  pub front : xs ≡ cs
  pub rest : ys ≡ ds

pub same_halves : {X : Type 0} (xs ys cs ds : List X) (count : ℕ) → xs ++ ys ≡ cs ++ ds → length xs ≡ count → length cs ≡ count → SameHalves xs ys cs ds
same_halves xs ys cs ds count same many long =
    let front : xs ≡ cs = sym (take_at xs ys count many) ∙ ap (take count) same ∙ take_at cs ds count long in
    record { front = front; rest = append_cancel_left cs ys ds (ap (λ l. l ++ ys) (sym front) ∙ same) }

-- Breaks stand one behind another

pub rising-from : (from at to : ℕ) (bs : List Break) → from ≤ at → AreRising at to bs → AreRising from to bs
rising-from from at to [] less rising = tt
rising-from from at to (b ∷ bs) less rising = (omega (arith, less, rising.0), rising.1, rising.2)

rising-front : (from to : ℕ) (xs ys : List Break) → AreRising from to (xs ++ ys) → AreRising from to xs
rising-front from to [] ys rising = tt
rising-front from to (x ∷ xs) ys rising = (rising.0, rising.1, rising-front x.at to xs ys rising.2)

rising-marks : (from at to : ℕ) (ms : List Marked) → from ≤ at → at + length (encode_utf8_all (scalars_of ms)) < to → AreRising from to (breaks_from at ms)
rising-marks from at to [] less below = tt
rising-marks from at to (m ∷ ms) less below =
    let end = at + length (encode_utf8 m.scalar) in
    let sum = length-append (encode_utf8 m.scalar) (encode_utf8_all (scalars_of ms)) in
    let there : end + length (encode_utf8_all (scalars_of ms)) < to = omega (arith, sum, below) in
    let later = rising-marks from end to ms (omega (arith, less)) there in
    let here : AreRising from to (break_by end m.after ∷ breaks_from end ms) =
    (omega (arith, less), omega (arith, there), rising-marks end end to ms (omega arith) there) in
    elim (is_no m.after.kind)
    as (λ k. AreRising from to (cond k (breaks_from end ms) (break_by end m.after ∷ breaks_from end ms)))
    [ true ↦ later | false ↦ here ]

-- so do the first breaks of a text
pub rising-breaks : (to count : ℕ) (profile : Profile) (cell : ℕ → Cell) (text : List ℕ) → IsUtf8 text → length text < to
    → AreRising 0 to (take count (breaks profile cell (chars text)))
rising-breaks to count profile cell text utf8 below =
    let all = marks_behind profile cell [] (chars text) in
    let bs = breaks profile cell (chars text) in
    let same : length (encode_utf8_all (scalars_of all)) ≡ length text =
    ap (λ cs. length (encode_utf8_all cs)) (scalars-behind profile cell [] (chars text)) ∙ ap length (encodes-chars text utf8) in
    rising-front 0 to (take count bs) (drop count bs)
    (subst (AreRising 0 to) (sym (take-append-drop count bs)) (rising-marks 0 0 to all (omega arith) (omega (arith, same, below))))

-- The segments of breaks that stand further on

pub cut_on-moved : (bytes base start : ℕ) (bs : List Break) → cut_on (bytes + base) start (map (moved bytes) bs) ≡ cut_on base start bs
cut_on-moved bytes base start [] = refl
cut_on-moved bytes base start (b ∷ bs) =
    let must = is_must b.kind in
    let piece : ℕ → Segment = λ end. record { start = start; end = end; kind = b.kind; rule = b.rule } in
    let place : bytes + b.at - (bytes + base) ≡ b.at - base = omega arith in
    let from : cond must (bytes + b.at) (bytes + base) ≡ bytes + cond must b.at base =
    elim must as (λ k. cond k (bytes + b.at) (bytes + base) ≡ bytes + cond k b.at base) [ true ↦ refl | false ↦ refl ] in
    ap₂ (λ n f. piece n ∷ cut_on f (cond must 0 n) (map (moved bytes) bs)) place from
    ∙ ap (λ l. piece (b.at - base) ∷ l) (cut_on-moved bytes (cond must b.at base) (cond must 0 (b.at - base)) bs)

pub musts-moved : (bytes k : ℕ) (bs : List Break) → musts k (map (moved bytes) bs) ≡ musts k bs
musts-moved bytes k [] = refl
musts-moved bytes k (b ∷ bs) = ap (λ l. cond (is_must b.kind) (k ∷ l) l) (musts-moved bytes (k + 1) bs)

-- They are as many as the breaks

pub length-cut_on : (base start : ℕ) (bs : List Break) → length (cut_on base start bs) ≡ length bs
length-cut_on base start [] = refl
length-cut_on base start (b ∷ bs) =
    let rest = length-cut_on (cond (is_must b.kind) b.at base) (cond (is_must b.kind) 0 (b.at - base)) bs in omega (arith, rest)

-- Up to the first break at which a line must end

-- the segment that ends there
pub segment_first : (start : ℕ) (front : List Break) (last : Break) (rest : List Break) (d : Segment) → NoneMust front
    → (from : ℕ) × (get_or (cut_on 0 start (front ++ last ∷ rest)) (length front) d
    ≡ record { start = from; end = last.at; kind = last.kind; rule = last.rule })
segment_first start [] last rest d none =
    let piece : ℕ → Segment = λ end. record { start = start; end = end; kind = last.kind; rule = last.rule } in
    let whole : last.at - 0 ≡ last.at = omega arith in
    (start, ap piece whole)
segment_first start (f ∷ fs) last rest d none =
    subst
    (λ k. (from : ℕ) × (get_or (cut_on (cond k f.at 0) (cond k 0 (f.at - 0)) (fs ++ last ∷ rest)) (length fs) d
    ≡ record { start = from; end = last.at; kind = last.kind; rule = last.rule }))
    (sym (All-head (λ x. is_must x.kind ≡ false) f fs none))
    (segment_first (f.at - 0) fs last rest d (All-tail (λ x. is_must x.kind ≡ false) f fs none))

pub cut_on-first : (start : ℕ) (front : List Break) (last : Break) (rest : List Break) → NoneMust front → is_must last.kind ≡ true
    → cut_on 0 start (front ++ last ∷ rest) ≡ cut_at start (front ++ last ∷ []) ++ cut_on last.at 0 rest
cut_on-first start [] last rest none must =
    let piece : ℕ → Segment = λ end. record { start = start; end = end; kind = last.kind; rule = last.rule } in
    let whole : last.at - 0 ≡ last.at = omega arith in
    ap (λ k. piece (last.at - 0) ∷ cut_on (cond k last.at 0) (cond k 0 (last.at - 0)) rest) must
    ∙ ap (λ n. piece n ∷ cut_on last.at 0 rest) whole
cut_on-first start (f ∷ fs) last rest none must =
    let piece : ℕ → Segment = λ end. record { start = start; end = end; kind = f.kind; rule = f.rule } in
    let whole : f.at - 0 ≡ f.at = omega arith in
    ap (λ k. piece (f.at - 0) ∷ cut_on (cond k f.at 0) (cond k 0 (f.at - 0)) (fs ++ last ∷ rest)) (All-head (λ x. is_must x.kind ≡ false) f fs none)
    ∙ ap (λ n. piece n ∷ cut_on 0 n (fs ++ last ∷ rest)) whole
    ∙ ap (λ l. piece f.at ∷ l) (cut_on-first f.at fs last rest (All-tail (λ x. is_must x.kind ≡ false) f fs none) must)

pub musts-first : (n : ℕ) (front : List Break) (last : Break) (rest : List Break) → NoneMust front → is_must last.kind ≡ true
    → musts n (front ++ last ∷ rest) ≡ (n + length front) ∷ musts (n + length front + 1) rest
musts-first n [] last rest none must =
    let same : n ≡ n + 0 = omega arith in
    ap (λ k. cond k (n ∷ musts (n + 1) rest) (musts (n + 1) rest)) must ∙ ap (λ k. k ∷ musts (k + 1) rest) same
musts-first n (f ∷ fs) last rest none must =
    let same : n + 1 + length fs ≡ n + length (f ∷ fs) = omega arith in
    ap (λ k. cond k (n ∷ musts (n + 1) (fs ++ last ∷ rest)) (musts (n + 1) (fs ++ last ∷ rest))) (All-head (λ x. is_must x.kind ≡ false) f fs none)
    ∙ musts-first (n + 1) fs last rest (All-tail (λ x. is_must x.kind ≡ false) f fs none) must
    ∙ ap (λ k. k ∷ musts (k + 1) rest) same

-- breaks are split at the first place that is noted
pub record SplitsAt (n : ℕ) (found : List Break) (k : ℕ) : Type 0 where
  pub front : List Break
  pub last : Break
  pub rest : List Break
  pub all : found ≡ front ++ last ∷ rest
  pub place : k ≡ n + length front
  pub none : NoneMust front
  pub must : is_must last.kind ≡ true

pub splits_at : (n : ℕ) (found : List Break) (k : ℕ) (ks : List ℕ) → musts n found ≡ k ∷ ks → SplitsAt n found k
splits_at n [] k ks is = absurd (let no = ap length is in omega (arith, no))
splits_at n (b ∷ bs) k ks is = by (splits_at (n + 1) bs k ks) (is_must b.kind) refl
  where
    at : (m : Bool) → is_must b.kind ≡ m → cond m (n ∷ musts (n + 1) bs) (musts (n + 1) bs) ≡ k ∷ ks
    at m must = sym (ap (λ m. cond m (n ∷ musts (n + 1) bs) (musts (n + 1) bs)) must) ∙ is

    by : (musts (n + 1) bs ≡ k ∷ ks → SplitsAt (n + 1) bs k) → (m : Bool) → is_must b.kind ≡ m → SplitsAt n (b ∷ bs) k
    by more true must =
        let same : k ≡ n = (let both = at true must in cc) in
        record { front = []; last = b; rest = bs; all = refl; place = omega (arith, same); none = All-nil (λ x. is_must x.kind ≡ false); must = must }
    by more false must =
        let s = more (at false must) in
        record {
          front = b ∷ s.front;
          last = s.last;
          rest = s.rest;
          all = ap (λ l. b ∷ l) s.all;
          place = omega (arith, s.place);
          none = All-cons (λ x. is_must x.kind ≡ false) b s.front must s.none;
          must = s.must;
        }

-- the next break of a block
pub next-given : (block : List RawBreak) (count k : ℕ) → count ≤ length block → k < count
    → drop k (given_in block count) ≡ shown (get_or block k no_break) ∷ drop (k + 1) (given_in block count)
next-given block count k room below =
    let found = given_in block count in
    let many : length found ≡ count = given-many block count room in
    let one : get_or found k (shown no_break) ≡ shown (get_or block k no_break) =
    get_or-map shown (take count block) k no_break (shown no_break) (omega (arith, below, sym (length-map (take count block) shown), many))
    ∙ ap shown (get_or-take count block k no_break below) in
    drop_more found k (shown no_break) (omega (arith, many, below)) ∙ ap (λ b. b ∷ drop (k + 1) found) one

-- One more break is cut

pub cut-step : (base start : ℕ) (b : Break) (bs : List Break) (slots : List Segment) (k : ℕ) (all : List Segment) → k < length slots
    → take k slots ++ cut_on base start (b ∷ bs) ≡ all
    → take (k + 1) (set slots k (record { start = start; end = b.at - base; kind = b.kind; rule = b.rule }))
    ++ cut_on (cond (is_must b.kind) b.at base) (cond (is_must b.kind) 0 (b.at - base)) bs ≡ all
cut-step base start b bs slots k all there is =
    let piece : Segment = record { start = start; end = b.at - base; kind = b.kind; rule = b.rule } in
    let rest = cut_on (cond (is_must b.kind) b.at base) (cond (is_must b.kind) 0 (b.at - base)) bs in
    ap (λ l. l ++ rest) (take_more_set slots k piece there) ∙ append_assoc (take k slots) (piece ∷ []) rest ∙ is

pub musts-step : (k n : ℕ) (b : Break) (bs : List Break) (ends all : List ℕ) → n < length ends
    → take n ends ++ musts k (b ∷ bs) ≡ all
    → take (n + cond (is_must b.kind) 1 0) (set ends n k) ++ musts (k + 1) bs ≡ all
musts-step k n b bs ends all there is = by (is_must b.kind) is
  where
    rest : List ℕ
    rest = musts (k + 1) bs

    by : (m : Bool) → take n ends ++ cond m (k ∷ rest) rest ≡ all → take (n + cond m 1 0) (set ends n k) ++ rest ≡ all
    by true is = ap (λ l. l ++ rest) (take_more_set ends n k there) ∙ append_assoc (take n ends) (k ∷ []) rest ∙ is
    by false is =
        let same : n + 0 ≡ n = omega arith in
        ap (λ i. take i (set ends n k) ++ rest) same ∙ ap (λ l. l ++ rest) (take-set ends n k) ∙ is

pub rising-step : (base to : ℕ) (b : Break) (bs : List Break) → AreRising base to (b ∷ bs) → AreRising (cond (is_must b.kind) b.at base) to bs
rising-step base to b bs rising =
    elim (is_must b.kind) as (λ k. AreRising (cond k b.at base) to bs)
    [ true ↦ rising.2 | false ↦ rising-from base b.at to bs rising.0 rising.2 ]

-- the kind of a break, by whether a line must end there
pub must_kind : (k : Kind) → is_must k ≡ true → k ≡ Must
must_kind No must = absurd (false≢true must)
must_kind May must = absurd (false≢true must)
must_kind Must must = refl

pub may_kind : (k : Kind) → is_must k ≡ false → is_no k ≡ false → k ≡ May
may_kind No must some = absurd (false≢true (sym some))
may_kind May must some = refl
may_kind Must must some = absurd (false≢true (sym must))
