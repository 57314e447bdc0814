-- Breaks of the bytes that are ready, found ahead of the passages that they end.
use Rattle.std.proofs.Common.{true, ◌≡◌, ℕ, suc, zero, ◌+◌, ◌-◌, ◌<◌, ◌≤◌, ◌||◌, false, IfSome, Option, List, [], ◌∷◌, ◌++◌, length, map, drop, take, get_or, None, Some, chars, IsCharBoundary, IsUtf8, refl, sym, ap, subst, inr, ⊎_elim, ◌∙◌, arith, append_assoc}
use Rattle.std.proofs.Math.Seq.{drop-drop, take-add}
use Rattle.std.specs.List.{take-map}
use Rattle.std.proofs.lemmas.List.{drop_more, get_or-drop, get_or-take, length-append, length-drop, length-map, length-take-le, length_push, take-append-drop, take_at}
use Rattle.lbk_rules.specs.declared.Break.{Break}
use Rattle.lbk_rules.specs.declared.Cell.{Cell}
use Rattle.lbk_values.specs.declared.profile.Profile.{Profile}
use Rattle.lbk_rules.specs.Breaks.{breaks}
use Rattle.lbk_rules.specs.Joins.{moved}
use Rattle.lbk_bytes.specs.declared.raw_break.RawBreak.{RawBreak}
use Rattle.lbk_bytes.specs.Shown.{given_in}
use Rattle.lbk_passage.specs.Ahead.{AreWhole, EndsFirst, GivesTold, HasAhead, HasSizes, HasTold, IsAhead, IsTold, KeepsTold, TakesBy, TakesTold, Tells, by_count}
use Rattle.lbk_passage.specs.Cuts.{cut_at, cut_on, musts}
use Rattle.lbk_passage.specs.Found.{FindsNext}
use Rattle.lbk_rules.specs.Marks.{ended, marks}
use Rattle.lbk_passage.specs.Passages.{is_must}
use Rattle.lbk_passage.specs.Segments.{segments_of}
use Rattle.lbk_passage.specs.Stays.{last_class}
use Rattle.lbk_passage.specs.declared.ahead.Ahead.{Ahead}
use Rattle.lbk_passage.specs.declared.found.Progress.{Progress}
use Rattle.lbk_passage.specs.declared.paragraph.Paragraph.{Paragraph}
use Rattle.lbk_passage.specs.declared.paragraph.Told.{Told}
use Rattle.lbk_passage.specs.declared.passage.Segment.{Segment}
use Rattle.lbk_passage.specs.declared.reach.ReachEnd.TheVariants.{LineEnds}
use Rattle.lbk_passage.proofs.CutLemmas.{SameHalves, SplitsAt, cut_on-first, cut_on-moved, length-cut_on, musts-first, musts-moved, same_halves, segment_first, splits_at}
use Rattle.lbk_passage.proofs.FirstEnds.{FirstEndIn, NoneMust, first_end_in}
use Rattle.lbk_passage.proofs.SegmentLemmas.{length-cut}

-- the first breaks of a text stand in the front of a block
pub first-given : {profile : Profile} {cell : ℕ → Cell} {text : List ℕ} {to : Progress} {room : ℕ} {block : List RawBreak}
    → FindsNext profile cell text (record { state = record { count = 0; row = 0; at = 0 }; ended = false }) to room block
    → given_in block to.state.count ≡ take to.state.count (breaks profile cell (chars text))
first-given {profile} {cell} {text} {to} {room} {block} f =
    let whole : to.state.count - 0 ≡ to.state.count = omega arith in
    ap (given_in block) (sym whole) ∙ f.front ∙ ap (λ n. take n (breaks profile cell (chars text))) whole

-- the first breaks of a text were found into a block, and cut
pub IsAhead-found : {profile : Profile} {cell : ℕ → Cell} {text : List ℕ} {to : Progress} {room : ℕ} {block : List RawBreak}
    → FindsNext profile cell text (record { state = record { count = 0; row = 0; at = 0 }; ended = false }) to room block → room ≡ 1024
    → (segments : List Segment) (ends : List ℕ) (count : ℕ)
    → AreWhole (record { block = block; segments = segments; ends = ends; ends_count = count; next_end = 0; next = 0; left = to.state.count; told = 0 })
    → take to.state.count segments ≡ cut_on 0 0 (given_in block to.state.count)
    → take count ends ≡ musts 0 (given_in block to.state.count) → count ≤ to.state.count
    → HasAhead (record { block = block; segments = segments; ends = ends; ends_count = count; next_end = 0; next = 0; left = to.state.count; told = 0 })
    (take to.state.count (breaks profile cell (chars text)))
IsAhead-found {profile} {cell} {text} {to} {room} {block} f room_is segments ends count whole_is cut noted few =
    let front = first-given f in
    record {
      whole = whole_is;
      within = omega (arith, f.count, room_is);
      before = omega arith;
      cut = cut ∙ ap (cut_on 0 0) front;
      few = (omega arith, omega (arith, few, f.count, room_is));
      ends = noted ∙ ap (musts 0) front;
    }

-- none of the bytes that are ready
pub HasAhead-none : {a : Ahead} {found : List Break} → HasAhead a found → HasAhead (record a { ends_count = 0; next_end = 0; left = 0; told = 0 }) []
HasAhead-none h = record {
  whole = h.whole;
  within = omega (arith, h.within);
  before = omega arith;
  cut = refl;
  few = (omega arith, omega arith);
  ends = refl;
}

module _ {a : Ahead} {found : List Break} (h : HasAhead a found) where
  pub found-many : length found ≡ a.left
  found-many =
      sym (length-cut_on 0 0 found) ∙ sym (ap length h.cut)
      ∙ length-take-le a.left (drop a.next a.segments) (omega (arith, h.within, h.whole.1, length-drop a.next a.segments))

  -- the segment that ends at the first of them at which a line must end
  segment_at : (front : List Break) (last : Break) (rest : List Break) → found ≡ front ++ last ∷ rest → NoneMust front → (d : Segment)
      → (from : ℕ) × (get_or a.segments (a.next + length front) d ≡ record { start = from; end = last.at; kind = last.kind; rule = last.rule })
  segment_at front last rest all none d =
      let below : length front < a.left = omega (arith, found-many, ap length all, length-append front (last ∷ rest)) in
      let first = segment_first 0 front last rest d none in (
        first.0,
        sym (get_or-drop a.next a.segments (length front) d) ∙ sym (get_or-take a.left (drop a.next a.segments) (length front) d below)
            ∙ ap (λ l. get_or l (length front) d) (h.cut ∙ ap (cut_on 0 0) all) ∙ first.1,
      )

-- so many of them as come up to the first at which a line must end
pub first-few : {a : Ahead} {found : List Break} {len count : ℕ} → HasAhead a found → EndsFirst found len count → (0 < count) × (count ≤ a.left)
first-few h e =
    (omega (arith, e.counted), omega (arith, e.counted, length-append e.front (e.last ∷ e.rest), ap length e.all, found-many h))

-- the first place that is noted is that of the first break at which a line must end
module _ {a : Ahead} {found : List Break} (h : HasAhead a found) (some : a.next_end < a.ends_count) where
  pub first-noted : SplitsAt a.next found (get_or a.ends a.next_end 0)
  first-noted =
      let noted = take a.ends_count a.ends in
      let many : length noted ≡ a.ends_count = length-take-le a.ends_count a.ends (omega (arith, h.few.1, h.whole.2)) in
      let there : get_or noted a.next_end 0 ≡ get_or a.ends a.next_end 0 = get_or-take a.ends_count a.ends a.next_end 0 some in
      splits_at a.next found (get_or a.ends a.next_end 0) (drop (a.next_end + 1) noted)
      (sym h.ends ∙ drop_more noted a.next_end 0 (omega (arith, many, some)) ∙ ap (λ k. k ∷ drop (a.next_end + 1) noted) there)

  pub noted-within : get_or a.ends a.next_end 0 < a.next + a.left
  noted-within =
      let s = first-noted in
      omega (arith, s.place, found-many h, ap length s.all, length-append s.front (s.last ∷ s.rest))

  pub EndsFirst-noted : (len k : ℕ) (d : Segment) → k ≡ get_or a.ends a.next_end 0 → (get_or a.segments k d).end < len → EndsFirst found len (k + 1 - a.next)
  EndsFirst-noted len k d there near =
      let s = first-noted in
      let place : k ≡ a.next + length s.front = there ∙ s.place in
      let at : (get_or a.segments k d).end ≡ s.last.at =
      ap (λ n. (get_or a.segments n d).end) place ∙ ap (λ x. x.end) (segment_at h s.front s.last s.rest s.all s.none d).1 in
      record {
        front = s.front;
        last = s.last;
        rest = s.rest;
        all = s.all;
        counted = omega (arith, place);
        none = s.none;
        must = s.must;
        near = omega (arith, near, at);
      }

-- the first of them are taken
module _ {a : Ahead} (front : List Break) (last : Break) (rest : List Break) (h : HasAhead a (front ++ last ∷ rest)) (count : ℕ)
    (counted : count ≡ length front + 1) (none : NoneMust front) (must : is_must last.kind ≡ true) where
  many : length (front ++ last ∷ rest) ≡ count + length rest
  many = omega (arith, length-append front (last ∷ rest), counted)

  few : count + length rest ≡ a.left
  few = sym many ∙ found-many h

  -- the segments
  slice-parts : SameHalves (take count (drop a.next a.segments)) (take (a.left - count) (drop (a.next + count) a.segments))
      (cut_at 0 (front ++ last ∷ [])) (cut_on last.at 0 rest)
  slice-parts =
      let whole : count + (a.left - count) ≡ a.left = omega (arith, few) in
      let parts : take a.left (drop a.next a.segments) ≡ take count (drop a.next a.segments) ++ take (a.left - count) (drop (a.next + count) a.segments) =
      ap (λ n. take n (drop a.next a.segments)) (sym whole) ∙ take-add count (a.left - count) (drop a.next a.segments)
      ∙ ap (λ l. take count (drop a.next a.segments) ++ take (a.left - count) l) (drop-drop count a.next a.segments) in
      same_halves (take count (drop a.next a.segments)) _ (cut_at 0 (front ++ last ∷ [])) _ count
      (sym parts ∙ h.cut ∙ cut_on-first 0 front last rest none must)
      (length-take-le count (drop a.next a.segments) (omega (arith, length-drop a.next a.segments, h.whole.1, h.within, few)))
      (length-cut 0 (front ++ last ∷ []) ∙ length_push front last ∙ (omega (arith, counted)))

  -- the places
  places-are : drop a.next_end (take a.ends_count a.ends) ≡ (a.next + length front) ∷ musts (a.next + length front + 1) rest
  places-are = h.ends ∙ musts-first a.next front last rest none must

  pub some-noted : a.next_end < a.ends_count
  some-noted =
      let noted = take a.ends_count a.ends in
      let many : length noted ≡ a.ends_count = length-take-le a.ends_count a.ends (omega (arith, h.few.1, h.whole.2)) in
      let some = ap length places-are in
      omega (arith, some, many, length-drop a.next_end noted)

  abbrev pub taken : Ahead
  taken = record a { next_end = a.next_end + 1; next = a.next + count; left = a.left - count; told = count }

  pub TakesBy-counted : (d : Segment) → TakesBy a taken (record {
    len = (get_or a.segments (a.next + count - 1) d).end;
    end = record { kind = (get_or a.segments (a.next + count - 1) d).kind; rule = (get_or a.segments (a.next + count - 1) d).rule };
  }) front last rest
  TakesBy-counted d =
      let place : a.next + length front ≡ a.next + count - 1 = omega (arith, counted) in
      let is = ap (λ n. get_or a.segments n d) (sym place) ∙ (segment_at h front last rest refl none d).1 in
      let back : a.next + count - count ≡ a.next = omega arith in
      record {
        len = ap (λ x. x.end) is;
        end = ap (λ x. record { kind = x.kind; rule = x.rule }) is;
        some = omega (arith, counted);
        cut = ap (λ n. take count (drop n a.segments)) back ∙ slice-parts.front;
        behind = λ others is.
            let origin : last.at ≡ last.at + 0 = omega arith in
            let behind : a.next + length front + 1 ≡ a.next + count = omega (arith, counted) in
            record {
              whole = h.whole;
              within = omega (arith, few, h.within);
              before = omega arith;
              cut = slice-parts.rest ∙ ap (cut_on last.at 0) is ∙ ap (λ n. cut_on n 0 (map (moved last.at) others)) origin
                  ∙ cut_on-moved last.at 0 0 others;
              few = (omega (arith, some-noted), h.few.1);
              ends = sym (drop-drop 1 a.next_end (take a.ends_count a.ends)) ∙ ap (drop 1) places-are
                  ∙ ap (λ n. musts n rest) behind ∙ ap (musts (a.next + count)) is ∙ musts-moved last.at (a.next + count) others;
            };
      }

-- a passage was taken by breaks, or none was
module _ (profile : Profile) (cell : ℕ → Cell) (p : Paragraph) (a new : Ahead) (count : ℕ) (utf8 : IsUtf8 p.feed.ready) (fresh : (p.is_held || p.is_spent) ≡ false)
    (h : IsAhead profile cell p.feed.ready a) (e : EndsFirst (take a.left (breaks profile cell (chars p.feed.ready))) (length p.feed.ready) count) where
  has : HasAhead a (e.front ++ e.last ∷ e.rest)
  has = subst (HasAhead a) e.all h

  are : breaks profile cell (chars p.feed.ready) ≡ e.front ++ e.last ∷ (e.rest ++ drop a.left (breaks profile cell (chars p.feed.ready)))
  are = sym (take-append-drop a.left (breaks profile cell (chars p.feed.ready))) ∙ ap (λ l. l ++ drop a.left (breaks profile cell (chars p.feed.ready))) e.all
      ∙ append_assoc e.front (e.last ∷ e.rest) (drop a.left (breaks profile cell (chars p.feed.ready)))

  first : FirstEndIn profile cell p.feed.ready e.front e.last (e.rest ++ drop a.left (breaks profile cell (chars p.feed.ready)))
  first = first_end_in profile cell p.feed.ready e.front e.last _ utf8 are e.none e.must e.near

  module _ (told : Told) (takes : TakesTold a new count p.limit (Some told)) where
    by : TakesBy a new told e.front e.last e.rest
    by = takes.1 (take a.left (breaks profile cell (chars p.feed.ready))) (length p.feed.ready) h e

    abbrev others : List Break
    others = take (length e.rest) (breaks profile cell (first.cut.next ∷ first.cut.more))

    rest_moved : e.rest ≡ map (moved e.last.at) others
    rest_moved =
        sym (take_at e.rest (drop a.left (breaks profile cell (chars p.feed.ready))) (length e.rest) refl)
        ∙ ap (take (length e.rest)) first.cut.rest_is
        ∙ take-map (moved e.last.at) (length e.rest) (breaks profile cell (first.cut.next ∷ first.cut.more))

    after : HasAhead new others
    after = by.behind others rest_moved

    left_is : length e.rest ≡ new.left
    left_is = ap length rest_moved ∙ length-map others (moved e.last.at) ∙ found-many after

    text_len : length (take told.len p.feed.ready) ≡ e.last.at
    text_len = length-take-le told.len p.feed.ready (omega (arith, by.len, e.near)) ∙ by.len

    text_chars : chars (take told.len p.feed.ready) ≡ first.cut.taken
    text_chars = ap (λ n. chars (take n p.feed.ready)) by.len ∙ first.front_chars

    tells_paragraph : IsTold cell p told
    tells_paragraph = record {
      fresh = fresh;
      some = omega (arith, e.near);
      boundary = subst (IsCharBoundary p.feed.ready) (sym by.len) first.boundary;
      reach = record { len = e.last.at; last = last_class cell None first.cut.taken; stop = LineEnds };
      reaches = record {
        taken = first.cut.taken;
        rest = first.cut.next ∷ first.cut.more;
        all = first.cut.is;
        len = first.cut.place;
        within = omega (arith, by.len, takes.0);
        none_ends = first.cut.none_ends;
        last_is = refl;
        stop = (first.cut.next, first.cut.more, refl, first.cut.ends);
      };
      len = by.len;
      stop = refl;
      end = ap Some by.end ∙ first.cut.verdict;
    }

    keeps_ahead : IsAhead profile cell (drop told.len p.feed.ready) new
    keeps_ahead = subst (HasAhead new)
        (ap (λ n. take n (breaks profile cell (first.cut.next ∷ first.cut.more))) left_is
        ∙ ap (λ cs. take new.left (breaks profile cell cs)) (sym (ap (λ n. chars (drop n p.feed.ready)) by.len ∙ first.behind_chars)))
        after

    has_told : HasTold profile cell (take told.len p.feed.ready) told.end new
    has_told = record {
      some = by.some;
      cut = by.cut ∙ first.cut.segments ∙ ap (λ v. segments_of (ended v (marks profile cell first.cut.taken))) (sym by.end)
          ∙ ap (λ cs. segments_of (ended told.end (marks profile cell cs))) (sym text_chars);
    }

  pub Tells-taken : (r : Option Told) (old : Ahead) → TakesTold a new count p.limit r → Tells profile cell p old new r
  Tells-taken None old is = inr (fresh, λ ready. subst (λ n. IsAhead profile cell ready n) (sym is) (HasAhead-none h), ap (λ n. n.told) is)
  Tells-taken (Some told) old takes = (tells_paragraph told takes, keeps_ahead told takes, has_told told takes)

-- the segments of the passage taken last
pub by_count-none : {X : Type 0} (n : ℕ) (none some : X) → n ≡ 0 → by_count n none some ≡ none
by_count-none n none some is = ap (λ k. by_count k none some) is

pub by_count-some : {X : Type 0} (n : ℕ) (none some : X) → 0 < n → by_count n none some ≡ some
by_count-some zero none some less = absurd (omega (arith, less))
by_count-some (suc n) none some less = refl

pub HasSizes-ahead : {a : Ahead} {found : List Break} → HasAhead a found → HasSizes a
HasSizes-ahead h = (h.before, omega (arith, h.within), h.whole.1)

-- what was found ahead is so still after the call that filled a paragraph, or looked for one
pub ahead-kept : (profile : Profile) (cell : ℕ → Cell) (p q : Paragraph) (old a : Ahead) (r : Option Told)
    → Tells profile cell p old a r → IfSome r (λ told. GivesTold p q told) → ((p.is_held || p.is_spent) ≡ true → q ≡ p)
    → KeepsTold profile cell p old → IsAhead profile cell p.feed.ready old → KeepsTold profile cell q a × IsAhead profile cell q.feed.ready a
ahead-kept profile cell p q old a None tells gives same told found =
    let keeps = λ (k : Paragraph) (n : Ahead). KeepsTold profile cell k n × IsAhead profile cell k.feed.ready n in
    ⊎_elim (λ h. subst (λ k. keeps k a) (sym (same h.0)) (subst (keeps p) (sym h.1) (told, found)))
    (λ h. ((λ held some. absurd (omega (arith, some, h.2))), h.1 q.feed.ready)) tells
ahead-kept profile cell p q old a (Some told) tells gives same was found = (
  (λ held some end is.
      let end_is : told.end ≡ end = (let both : Some told.end ≡ Some end = sym gives.end ∙ is in cc) in
      subst (λ l. HasTold profile cell l end a) (sym gives.text) (subst (λ v. HasTold profile cell (take told.len p.feed.ready) v a) end_is tells.2)),
  subst (λ l. IsAhead profile cell l a) (sym gives.ready) tells.1,
)

-- nothing was found yet
pub HasAhead-nothing : (block : List RawBreak) (segments : List Segment) (ends : List ℕ) → length block ≡ 1024 → length segments ≡ 1024 → length ends ≡ 1024
    → HasAhead (record { block = block; segments = segments; ends = ends; ends_count = 0; next_end = 0; next = 0; left = 0; told = 0 }) []
HasAhead-nothing block segments ends blocks cuts places = record {
  whole = (blocks, cuts, places);
  within = omega arith;
  before = omega arith;
  cut = refl;
  few = (omega arith, omega arith);
  ends = refl;
}
