-- Segments between breaks, some breaks more.
use Rattle.std.proofs.Common.{◌≡◌, ℕ, zero, suc, ◌+◌, ◌-◌, ◌<◌, ◌≤◌, ◌⊎◌, inl, inr, List, [], ◌∷◌, ◌++◌, length, drop, map, min, set, take, slice_index_or, refl, sym, ap, ap₂, subst, ◌∙◌, arith}
use Rattle.std.proofs.Math.Logic.{⊎_elim}
use Rattle.std.proofs.lemmas.List.{append_assoc, drop-drop, length-append, length-take-le, map-append, take-append-le, take_more, take_more_set}
use Rattle.lbk_rules.specs.declared.Break.{Break}
use Rattle.lbk_rules.specs.declared.Cell.{Cell}
use Rattle.lbk_rules.specs.declared.neighbours.Neighbours.{Neighbours}
use Rattle.lbk_bytes.specs.declared.raw_break.RawBreak.{RawBreak}
use Rattle.lbk_bytes.specs.Order.{AreInOrder, IsBreak, no_break}
use Rattle.lbk_bytes.specs.Shown.{raw_of}
use Rattle.lbk_bytes.proofs.BlockLemmas.{zero-or}
use Rattle.lbk_chunks.proofs.BreakLemmas.{shown-front}
use Rattle.lbk_calls.specs.declared.interface.State.{State}
use Rattle.lbk_calls.specs.Calls.{GivesBreaks}
use Rattle.lbk_calls.specs.Coming.{Comes}
use Rattle.lbk_c.specs.declared.segments.Segment.{Segment}
use Rattle.lbk_c.specs.declared.segments.SegmentState.{SegmentState}
use Rattle.lbk_c.specs.Segments.{AreWithin, next_start, segment_to, segments_between}

pub between-append : (start : ℕ) (xs ys : List RawBreak)
    → segments_between start (xs ++ ys) ≡ segments_between start xs ++ segments_between (next_start start xs) ys
between-append start [] ys = refl
between-append start (x ∷ xs) ys = ap (λ l. segment_to start x ∷ l) (between-append x.at xs ys)

pub next-append : (start : ℕ) (xs ys : List RawBreak) → next_start start (xs ++ ys) ≡ next_start (next_start start xs) ys
next-append start [] ys = refl
next-append start (x ∷ xs) ys = next-append x.at xs ys

pub within-append : (size : ℕ) (xs ys : List Segment) → AreWithin size xs → AreWithin size ys → AreWithin size (xs ++ ys)
within-append size [] ys all more = more
within-append size (x ∷ xs) ys all more = (all.0, all.1, all.2, within-append size xs ys all.3 more)

-- in the front of a block are breaks up to a place, none before the last of those before it
pub record Rise (block : List RawBreak) (count start size : ℕ) : Type 0 where
  pub each : (k : ℕ) → k < count → IsBreak (slice_index_or block k no_break)
  pub low : (k : ℕ) → k < count → start ≤ (slice_index_or block k no_break).at
  pub high : (k : ℕ) → k < count → (slice_index_or block k no_break).at ≤ size
  pub rising : (k : ℕ) → k < count → (j : ℕ) → j < k → (slice_index_or block j no_break).at ≤ (slice_index_or block k no_break).at

pub rise : (block : List RawBreak) (count start from to size : ℕ) → AreInOrder block count from to → start ≤ from → to ≤ suc size → Rise block count start size
rise block count start from to size o low high = record {
  each = o.each;
  low = λ k few. omega (arith, (o.within k few).0, low);
  high = λ k few. omega (arith, (o.within k few).1, high);
  rising = λ k few j before. omega (arith, o.rising k few j before);
}

rise-on : (r : RawBreak) (block : List RawBreak) (count start size : ℕ) → Rise (r ∷ block) (suc count) start size → Rise block count r.at size
rise-on r block count start size o = record {
  each = λ k few. o.each (suc k) (omega (arith, few));
  low = λ k few. o.rising (suc k) (omega (arith, few)) 0 (omega arith);
  high = λ k few. o.high (suc k) (omega (arith, few));
  rising = λ k few j before. o.rising (suc k) (omega (arith, few)) (suc j) (omega (arith, before));
}

pub within-block : (block : List RawBreak) (count start size : ℕ) → Rise block count start size → AreWithin size (segments_between start (take count block))
within-block block zero start size o = tt
within-block [] (suc count) start size o = tt
within-block (r ∷ block) (suc count) start size o =
    (o.low 0 (omega arith), o.high 0 (omega arith), o.each 0 (omega arith), within-block block count r.at size (rise-on r block count start size o))

pub next-block : (block : List RawBreak) (count start most : ℕ) → start ≤ most → ((k : ℕ) → k < count → (slice_index_or block k no_break).at ≤ most)
    → next_start start (take count block) ≤ most
next-block block zero start most low high = low
next-block [] (suc count) start most low high = low
next-block (r ∷ block) (suc count) start most low high =
    next-block block count r.at most (high 0 (omega arith)) (λ k few. high (suc k) (omega (arith, few)))

take-nil : {X : Type 0} → (n : ℕ) → take {A = X} n [] ≡ []
take-nil zero = refl
take-nil (suc n) = refl

pub take-both : {X : Type 0} → (m n : ℕ) (xs : List X) → take (m + n) xs ≡ take m xs ++ take n (drop m xs)
take-both {X} zero n xs = let none : 0 + n ≡ n = omega arith in ap (λ k. take k xs) none
take-both {X} (suc m) n [] = take-nil (suc m + n) ∙ sym (take-nil n)
take-both {X} (suc m) n (x ∷ xs) =
    let same : suc m + n ≡ suc (m + n) = omega arith in
    ap (λ k. take k (x ∷ xs)) same ∙ ap (λ l. x ∷ l) (take-both m n xs)

-- nothing comes from a state of a text of this size, or there is no room for it
abbrev pub IsStill : State → ℕ → ℕ → Type 0
IsStill state size room = (3 < state.profile) ⊎ ((0 < state.ended) ⊎ ((size < state.at) ⊎ (room ≡ 0)))

-- the ways in which a call gives nothing
still-call : (kinds : List ℕ) (pairs : Neighbours) (text : List ℕ) (old new : State) (block : List RawBreak) (given room : ℕ) → GivesBreaks kinds pairs text old new room block given
    → IsStill old (length text) room → (given ≡ 0) × (new ≡ old)
still-call kinds pairs text old new block given room g (inl a) = g.goes_over.advances.unknown a
still-call kinds pairs text old new block given room g (inr (inl a)) = g.goes_over.advances.ended a
still-call kinds pairs text old new block given room g (inr (inr (inl a))) = g.goes_over.advances.past a
still-call kinds pairs text old new block given room g (inr (inr (inr a))) = g.goes_over.advances.no_room a

-- of what was to come, as the first breaks these were found, and the others come from the state on
pub record Taken (cell : ℕ → Cell) (kinds : List ℕ) (pairs : Neighbours) (text : List ℕ) (new : SegmentState) (found : List RawBreak) (count : ℕ) (to_come : List Break) : Type 0 where
  pub few : count ≤ length to_come
  pub same : map raw_of (take count to_come) ≡ found
  pub comes : Comes cell kinds pairs text new.breaks (drop count to_come)

-- so many segments were put into a block
pub record IsPut (kinds : List ℕ) (pairs : Neighbours) (text : List ℕ) (old new : SegmentState) (out : List Segment) (count : ℕ) : Type 0 where
  pub found : List RawBreak
  pub room : count ≤ length out
  pub front : take count out ≡ segments_between old.start found
  pub next : new.start ≡ next_start old.start found
  pub profile_same : new.breaks.profile ≡ old.breaks.profile
  pub inside : old.breaks.at ≤ length text → new.breaks.at ≤ length text
  pub forward : 0 < count → (old.breaks.at < new.breaks.at) ⊎ (0 < new.breaks.ended)
  pub onward : old.breaks.at ≤ new.breaks.at
  pub at_end : old.breaks.ended ≡ 0 → 0 < new.breaks.ended → new.breaks.at ≡ length text
  pub taken : (cell : ℕ → Cell) (to_come : List Break) → Comes cell kinds pairs text old.breaks to_come → Taken cell kinds pairs text new found count to_come
  pub sound : old.start ≤ old.breaks.at → old.breaks.at ≤ length text
      → AreWithin (length text) (segments_between old.start found) × (new.start ≤ new.breaks.at)
  pub still : IsStill old.breaks (length text) (length out) → (count ≡ 0) × (new ≡ old)

pub put-none : (kinds : List ℕ) (pairs : Neighbours) (text : List ℕ) (state : SegmentState) (out : List Segment) → IsPut kinds pairs text state state out 0
put-none kinds pairs text state out = record {
  found = [];
  room = omega arith;
  front = refl;
  next = refl;
  profile_same = refl;
  inside = λ within. within;
  forward = λ some. absurd (omega (arith, some));
  onward = omega arith;
  at_end = λ open_ ended. absurd (omega (arith, open_, ended));
  taken = λ cell to_come comes. record { few = omega arith; same = refl; comes = comes };
  sound = λ low within. (tt, low);
  still = λ stays. (refl, refl);
}

pub length-drop : {X : Type 0} → (n : ℕ) (l : List X) → n ≤ length l → n + length (drop n l) ≡ length l
length-drop {X} zero l few = omega arith
length-drop {X} (suc n) [] few = absurd (omega (arith, few))
length-drop {X} (suc n) (x ∷ xs) few = let more = length-drop n xs (omega (arith, few)) in omega (arith, more)

pub taken-more : (cell : ℕ → Cell) (kinds : List ℕ) (pairs : Neighbours) (text : List ℕ) (old new : SegmentState) (found block : List RawBreak) (count given room : ℕ) (to_come : List Break)
    → Taken cell kinds pairs text old found count to_come
    → given ≡ min room (length (drop count to_come)) → map raw_of (take given (drop count to_come)) ≡ take given block
    → Comes cell kinds pairs text new.breaks (drop given (drop count to_come))
    → Taken cell kinds pairs text new (found ++ take given block) (count + given) to_come
taken-more cell kinds pairs text old new found block count given room to_come were counted same comes = record {
  few = (let size = length-drop count to_come were.few in omega (arith, counted, size));
  same = ap (map raw_of) (take-both count given to_come) ∙ map-append raw_of (take count to_come) (take given (drop count to_come))
      ∙ ap₂ (λ (a b : List RawBreak). a ++ b) were.same same;
  comes = subst (λ l. Comes cell kinds pairs text new.breaks l) (drop-drop given count to_come) comes;
}

-- one segment more
pub put-one : (before out : List Segment) (from k start here : ℕ) (breaks : List RawBreak) → k < length breaks → from + k < length out
    → take (from + k) out ≡ take from before ++ segments_between start (take k breaks) → here ≡ next_start start (take k breaks)
    → take (from + (k + 1)) (set out (from + k) (segment_to here (slice_index_or breaks k no_break))) ≡ take from before ++ segments_between start (take (k + 1) breaks)
put-one before out from k start here breaks few room were now =
    let one = segment_to here (slice_index_or breaks k no_break) in
    let place : from + (k + 1) ≡ from + k + 1 = omega arith in
    let more : segments_between start (take (k + 1) breaks) ≡ segments_between start (take k breaks) ++ one ∷ [] =
    ap (segments_between start) (take_more breaks k no_break few)
    ∙ between-append start (take k breaks) (slice_index_or breaks k no_break ∷ [])
    ∙ ap (λ n. segments_between start (take k breaks) ++ segment_to n (slice_index_or breaks k no_break) ∷ []) (sym now) in
    ap (λ n. take n (set out (from + k) one)) place
    ∙ take_more_set out (from + k) one room
    ∙ ap (λ l. l ++ one ∷ []) were
    ∙ append_assoc (take from before) (segments_between start (take k breaks)) (one ∷ [])
    ∙ ap (λ l. take from before ++ l) (sym more)

pub next-one : (start k : ℕ) (breaks : List RawBreak) → k < length breaks → next_start start (take (k + 1) breaks) ≡ (slice_index_or breaks k no_break).at
next-one start k breaks few =
    ap (next_start start) (take_more breaks k no_break few) ∙ next-append start (take k breaks) (slice_index_or breaks k no_break ∷ [])

-- where the last of the breaks that were given stands: not behind the state
last-within : (kinds : List ℕ) (pairs : Neighbours) (text : List ℕ) (old new : State) (block : List RawBreak) (given room : ℕ) → GivesBreaks kinds pairs text old new room block given
    → (k : ℕ) → k < given → (slice_index_or block k no_break).at ≤ new.at
last-within kinds pairs text old new block given room g k few =
    ⊎_elim (λ (open_ : new.ended ≡ 0). (let b = (g.goes_over.before_state open_).within k few in omega (arith, b.1)))
    (λ (ended : 0 < new.ended). ⊎_elim (λ (was_open : old.ended ≡ 0). (let e = g.goes_over.advances.at_end was_open ended in let b = g.goes_over.in_order.within k few in omega (arith, e, b.1)))
    (λ (was_ended : 0 < old.ended). (let none = g.goes_over.advances.ended was_ended in absurd (omega (arith, few, none.0))))
    (zero-or old.ended))
    (zero-or new.ended)

-- some segments more
pub put-more : (kinds : List ℕ) (pairs : Neighbours) (text : List ℕ) (old here : SegmentState) (new : State) (next : ℕ) (before out : List Segment) (block breaks : List RawBreak) (count given room : ℕ)
    → IsPut kinds pairs text old here before count → GivesBreaks kinds pairs text here.breaks new room block given
    → given ≤ length block → breaks ≡ take given block → room ≡ min 64 (length before - count) → length out ≡ length before
    → take (count + length breaks) out ≡ take count before ++ segments_between here.start breaks → next ≡ next_start here.start breaks
    → IsPut kinds pairs text old (record { breaks = new; start = next }) out (count + given)
put-more kinds pairs text old here new next before out block breaks count given room i g few are full size front starts = record {
  found = i.found ++ take given block;
  room = (let a = i.room in let b = g.goes_over.within in omega (arith, a, b, full, size));
  front =
      ap (λ n. take (count + n) out) (sym many) ∙ front ∙ ap₂ (λ (a b : List Segment). a ++ b) i.front (ap₂ segments_between i.next are)
      ∙ sym (between-append old.start i.found (take given block));
  next = starts ∙ ap₂ next_start i.next are ∙ sym (next-append old.start i.found (take given block));
  profile_same = g.goes_over.advances.profile_same ∙ i.profile_same;
  inside = λ within. g.goes_over.advances.inside (i.inside within);
  forward = λ some. ⊎_elim (λ (none : given ≡ 0). forward-still (omega (arith, some, none)))
      (λ (more : 0 < given). ⊎_elim (λ (on : here.breaks.at < new.at). inl (omega (arith, on, i.onward)))
      (λ (ended : 0 < new.ended). inr ended)
      (g.goes_over.advances.forward more))
      (zero-or given);
  onward = omega (arith, i.onward, g.goes_over.advances.onward);
  at_end = λ open_ ended. ⊎_elim (λ (still_open : here.breaks.ended ≡ 0). g.goes_over.advances.at_end still_open ended)
      (λ (was_ended : 0 < here.breaks.ended). subst (λ (b : State). b.at ≡ length text) (sym (g.goes_over.advances.ended was_ended).1) (i.at_end open_ was_ended))
      (zero-or here.breaks.ended);
  taken = λ cell to_come comes. (
      let were = i.taken cell to_come comes in
      let more = drop count to_come in
      taken-more cell kinds pairs text here (record { breaks = new; start = next }) i.found block count given room to_come were (g.gives cell more were.comes).count
      (shown-front given block (take given more) few (g.gives cell more were.comes).front g.goes_over.in_order.each) (g.gives cell more were.comes).rest);
  sound = λ low within. (
      let s = i.sound low within in
      let at = i.inside within in
      let r = rise block given here.start here.breaks.at (suc (length text)) (length text) g.goes_over.in_order s.1 (omega arith) in
      let more = within-block block given here.start (length text) r in
      let joined = within-append (length text) (segments_between old.start i.found) (segments_between here.start (take given block)) s.0 more in
      let last = next-block block given here.start new.at (omega (arith, s.1, g.goes_over.advances.onward)) (last-within kinds pairs text here.breaks new block given room g) in (
        subst (AreWithin (length text)) (ap (λ n. segments_between old.start i.found ++ segments_between n (take given block)) i.next ∙ sym (between-append old.start i.found (take given block))) joined,
        subst (λ n. n ≤ new.at) (sym (starts ∙ ap (next_start here.start) are)) last,
      ));
  still = λ stays. (
      let was = i.still (subst (IsStill old.breaks (length text)) size stays) in
      let now = still-call kinds pairs text here.breaks new block given room g (subst (λ (s : SegmentState). IsStill s.breaks (length text) room) (sym was.1) (still-room old.breaks (length text) (length before) room (λ empty. omega (arith, full, empty)) (subst (IsStill old.breaks (length text)) size stays))) in
      let stood : next ≡ here.start = starts ∙ ap (next_start here.start) (are ∙ ap (λ n. take n block) now.0) in
      (omega (arith, was.0, now.0), ap₂ (λ (b : State) (n : ℕ). record { breaks = b; start = n }) now.1 stood ∙ was.1));
}
  where
    many : length breaks ≡ given
    many = ap length are ∙ length-take-le given block few

    forward-still : 0 < count → (old.breaks.at < new.at) ⊎ (0 < new.ended)
    forward-still some =
        ⊎_elim (λ (on : old.breaks.at < here.breaks.at). inl (omega (arith, on, g.goes_over.advances.onward)))
        (λ (ended : 0 < here.breaks.ended). inr (subst (λ (b : State). 0 < b.ended) (sym (g.goes_over.advances.ended ended).1) ended))
        (i.forward some)

    still-room : (state : State) (len n room : ℕ) → (n ≡ 0 → room ≡ 0) → IsStill state len n → IsStill state len room
    still-room state len n room empty (inl profile) = inl profile
    still-room state len n room empty (inr (inl ended)) = inr (inl ended)
    still-room state len n room empty (inr (inr (inl past))) = inr (inr (inl past))
    still-room state len n room empty (inr (inr (inr full_))) = inr (inr (inr (empty full_)))

-- the segments to the breaks of a call, which gave them into the front of a block
pub put-given : (kinds : List ℕ) (pairs : Neighbours) (text : List ℕ) (old here : SegmentState) (new : State) (next : ℕ) (before out : List Segment) (block front rest : List RawBreak) (count given room : ℕ)
    → IsPut kinds pairs text old here before count → length block ≡ 64 → room ≡ min 64 (length before - count) → length front ≡ length (take room block)
    → GivesBreaks kinds pairs text here.breaks new (length (take room block)) front given → length out ≡ length before
    → take (count + length (take given (front ++ rest))) out ≡ take count before ++ segments_between here.start (take given (front ++ rest))
    → next ≡ next_start here.start (take given (front ++ rest))
    → IsPut kinds pairs text old (record { breaks = new; start = next }) out (count + given)
put-given kinds pairs text old here new next before out block front rest count given room i sized is_room long g same put starts =
    let size = length-take-le room block (omega (arith, is_room, sized)) in
    let few : given ≤ length front = omega (arith, g.goes_over.within, long) in
    put-more kinds pairs text old here new next before out front (take given (front ++ rest)) count given room i
    (subst (λ n. GivesBreaks kinds pairs text here.breaks new n front given) size g) few (take-append-le given front rest few) is_room same put starts

-- a block whose front was written is as long as before
pub same-length : (front block : List RawBreak) (room size : ℕ) → length front ≡ room → room ≤ size → length block ≡ size → length (front ++ drop room block) ≡ size
same-length front block room size many within all =
    let behind = length-drop room block (omega (arith, within, all)) in
    let both = length-append front (drop room block) in
    omega (arith, behind, both, many, all)
