-- The cuts among the next breaks.
use Rattle.std.proofs.Common.{◌≡◌, ◌≢◌, ℕ, ◌+◌, ◌<◌, ◌≤◌, ◌⊎◌, append_assoc, below_more, get_or-set_other, get_or-set_same, inl, inr, Bool, true, false, cond, min, nat_lt, List, [], ◌∷◌, ◌++◌, drop, length, take, refl, sym, ap, ap₂, subst, ◌∙◌, arith}
use Rattle.std.proofs.Math.ListN.{set}
use Rattle.std.proofs.lemmas.Bool.Decides.{nat_tests}
use Rattle.std.proofs.lemmas.List.{take-append-drop, take_more_set}
use Rattle.lbk_rules.specs.declared.Break.{Break}
use Rattle.lbk_rules.specs.declared.Cell.{Cell}
use Rattle.lbk_rules.specs.declared.neighbours.Neighbours.{Neighbours}
use Rattle.lbk_bytes.specs.declared.raw_break.RawBreak.{RawBreak}
use Rattle.lbk_bytes.specs.Shown.{raw_of}
use Rattle.lbk_calls.specs.declared.interface.State.{State}
use Rattle.lbk_calls.specs.Coming.{Comes}
use Rattle.lbk_words.specs.Words.{words_on}
use Rattle.lbk_chunks.specs.declared.cut.Cut.{Cut}
use Rattle.lbk_chunks.specs.declared.cut.Place.{Place}
use Rattle.lbk_chunks.specs.declared.cursor.Filled.{Filled}
use Rattle.lbk_chunks.specs.declared.cursor.NextBreaks.{NextBreaks}
use Rattle.lbk_chunks.specs.declared.word_block.WordBlock.{WordBlock}
use Rattle.lbk_chunks.specs.Coming.{AreAmong, AreBreaksPast, AreCounted, AreNext, AreOnward, AreRead, StandWithin, IsAhead, IsPassed, breaks_left, words_ahead}
use Rattle.lbk_chunks.specs.Cuts.{cuts_among, is_within, words_before}
use Rattle.lbk_chunks.proofs.WordLemmas.{cut_by, first-behind, word-first}

pub breaks-past : (from to : ℕ) (bs : List Break) → from ≤ to → AreBreaksPast to bs → AreBreaksPast from bs
breaks-past from to [] below past = past
breaks-past from to (b ∷ bs) below past = (omega (arith, past.0), past.1)

-- the cut at a break of numbers
abbrev cut_of : RawBreak → ℕ → Cut
cut_of raw words = record { at = raw.at; words = words; kind = raw.kind; rule = raw.rule }

-- whether a place is within the words to come, of which the first ends behind it
pub is-clear : (text : List ℕ) (place : Place) (at : ℕ) → AreCounted text place → (place.word.end ≡ 0 → words_ahead text place ≡ [])
    → (place.word.end ≡ 0) ⊎ (at < place.word.end) → (place.word.end ≡ 0) ⊎ (at ≤ place.word.start)
    → (is_within (words_ahead text place) at ≡ false) × (words_before (words_ahead text place) at ≡ 0)
is-clear text place at counted none (inl ended) clear = (ap (λ ws. is_within ws at) (none ended), ap (λ ws. words_before ws at) (none ended))
is-clear text place at counted none (inr past) (inl ended) = absurd (omega arith)
is-clear text place at counted none (inr past) (inr clear) =
    let same = word-first text place (omega arith) in
    let behind = first-behind at place.word (words_on text place.from) past (subst (AreOnward 0) same counted.onward) in
    let outside : nat_lt place.word.start at ≡ false = grind (arith, nat_tests) in
    (ap (λ ws. is_within ws at) same ∙ behind.0 ∙ outside, ap (λ ws. words_before ws at) same ∙ behind.1)

pub is-split : (text : List ℕ) (place : Place) (at : ℕ) → AreCounted text place
    → (place.word.end ≡ 0) ⊎ (at < place.word.end) → (place.word.end ≡ 0 → ⊥) → place.word.start < at
    → is_within (words_ahead text place) at ≡ true
is-split text place at counted (inl ended) some inside = absurd (some ended)
is-split text place at counted (inr past) some inside =
    let same = word-first text place (omega arith) in
    let behind = first-behind at place.word (words_on text place.from) past (subst (AreOnward 0) same counted.onward) in
    let within : nat_lt place.word.start at ≡ true = grind (arith, nat_tests) in
    ap (λ ws. is_within ws at) same ∙ behind.0 ∙ within

-- the words before a break are passed
pub pass-before : (text : List ℕ) (cuts : List Cut) (b : Break) (bs : List Break) (found : RawBreak) (start : Filled) (new : Place) (words more : WordBlock) (out : List Cut)
    → raw_of b ≡ found → AreAmong text cuts (b ∷ bs) start words out → AreRead text more × IsPassed text found.at start.place new
    → AreAmong text cuts (b ∷ bs) (record { count = start.count; place = new }) more out
pass-before text cuts b bs found start new words more out shown a passed =
    let at = ap (λ (r : RawBreak). r.at) shown in
    record {
      read = passed.0;
      counted = passed.1.counted a.counted;
      rising = a.rising;
      joined = a.joined ∙ ap (λ l. take start.count out ++ l) (sym (passed.1.cuts a.counted b bs (omega (arith, at)) a.rising.1));
    }

module _ (text : List ℕ) (cuts : List Cut) (b : Break) (bs : List Break) (found : RawBreak) (here : Filled) (read : WordBlock) (out : List Cut)
    (shown : raw_of b ≡ found) (a : AreAmong text cuts (b ∷ bs) here read out) where
  abbrev new : Place
  new = here.place

  at-break : found.at ≡ b.at
  at-break = ap (λ (r : RawBreak). r.at) (sym shown)

  rising-on : AreBreaksPast 0 bs
  rising-on = breaks-past 0 b.at bs (omega arith) a.rising.1

  -- the break is a cut
  pub take-cut : here.count < length out → (new.word.end ≡ 0 → words_ahead text new ≡ []) → (new.word.end ≡ 0) ⊎ (found.at < new.word.end)
      → (new.word.end ≡ 0) ⊎ (found.at ≤ new.word.start)
      → AreAmong text cuts bs (record { count = here.count + 1; place = new }) read (set out here.count (cut_of found new.words))
  take-cut room none past clear =
      let at = at-break in
      let words = words_ahead text new in
      let others = cuts_among new.words words bs in
      let is = is-clear text new found.at a.counted none past clear in
      let within : is_within words b.at ≡ false = ap (is_within words) (sym at) ∙ is.0 in
      let count : new.words + words_before words b.at ≡ new.words = (let before : words_before words b.at ≡ 0 = ap (words_before words) (sym at) ∙ is.1 in omega arith) in
      let first : cuts_among new.words words (b ∷ bs) ≡ cut_of found new.words ∷ others =
      ap₂ (λ (w : Bool) (n : ℕ). cond w others (cut_by b n ∷ others)) within count ∙ ap (λ (r : RawBreak). (cut_of r new.words) ∷ others) shown in
      record {
        read = a.read;
        counted = a.counted;
        rising = rising-on;
        joined = a.joined ∙ ap (λ l. take here.count out ++ l) first
            ∙ sym (append_assoc (take here.count out) (cut_of found new.words ∷ []) others)
            ∙ ap (λ l. l ++ others) (sym (take_more_set out here.count (cut_of found new.words) room));
      }

  -- it is within a word
  pub skip-break : (new.word.end ≡ 0) ⊎ (found.at < new.word.end) → (new.word.end ≡ 0 → ⊥) → new.word.start < found.at
      → AreAmong text cuts bs here read out
  skip-break past some inside =
      let at = at-break in
      let words = words_ahead text new in
      let others = cuts_among new.words words bs in
      let within : is_within words b.at ≡ true = ap (is_within words) (sym at) ∙ is-split text new found.at a.counted past some inside in
      record {
        read = a.read;
        counted = a.counted;
        rising = rising-on;
        joined = a.joined
            ∙ ap (λ (w : Bool). take here.count out ++ cond w others (cut_by b (new.words + words_before words b.at) ∷ others)) within;
      }

-- one cut more is written
pub within-more : (size count : ℕ) (out : List Cut) (c : Cut) → count < length out → c.at ≤ size → StandWithin size count out → StandWithin size (count + 1) (set out count c)
within-more size count out c room below within = below_more _ _
    (λ k h. let ne : k ≢ count = omega arith in rw get_or-set_other (within k h))
    (rw get_or-set_same below)

-- what was found of some cuts, and the others
pub record IsSoFar (cell : ℕ → Cell) (kinds : List ℕ) (pairs : Neighbours) (text : List ℕ) (cuts out : List Cut) (filled : Filled) (words : WordBlock) : Type 0 where
  pub read : AreRead text words
  pub rest : List Cut
  pub joined : cuts ≡ take filled.count out ++ rest
  pub onward : IsAhead cell kinds pairs text filled.place rest

module _ (cell : ℕ → Cell) (kinds : List ℕ) (pairs : Neighbours) (text : List ℕ) (cuts : List Cut) where
  -- the breaks that were read are to be taken
  pub read-breaks : (room : ℕ) (here : Filled) (out : List Cut) (block : List RawBreak) (next : NextBreaks) (words : WordBlock) → (s : IsSoFar cell kinds pairs text cuts out here words)
      → AreNext cell kinds pairs text s.onward.breaks room block next
      → AreAmong text cuts (take next.count s.onward.breaks ++ drop next.count s.onward.breaks) (record { count = here.count; place = record here.place { breaks = next.state } }) words out
  read-breaks room here out block next words s n =
      let a = s.onward in
      let all = take-append-drop next.count a.breaks in
      record {
        read = s.read;
        counted = record { few = a.counted.few; onward = a.counted.onward };
        rising = subst (AreBreaksPast 0) (sym all) a.rising;
        joined = s.joined ∙ ap (λ l. take here.count out ++ l) (a.among ∙ ap (cuts_among here.place.words (words_ahead text here.place)) (sym all));
      }

  pub read-on : (room : ℕ) (here new : Filled) (before out : List Cut) (block : List RawBreak) (next : NextBreaks) (words more : WordBlock) → (s : IsSoFar cell kinds pairs text cuts before here words)
      → AreNext cell kinds pairs text s.onward.breaks room block next → new.place.breaks ≡ next.state
      → AreAmong text cuts (drop next.count s.onward.breaks) new more out → IsSoFar cell kinds pairs text cuts out new more
  read-on room here new before out block next words more s n same a = record {
    read = a.read;
    rest = cuts_among new.place.words (words_ahead text new.place) (drop next.count s.onward.breaks);
    joined = a.joined;
    onward = record {
      breaks = drop next.count s.onward.breaks;
      comes = subst (λ (t : State). Comes cell kinds pairs text t (drop next.count s.onward.breaks)) (sym same) n.onward;
      counted = a.counted;
      rising = a.rising;
      among = refl;
    };
  }

  none-of : (breaks : List Break) (room : ℕ) → 0 < room → 0 ≡ min room (length breaks) → breaks ≡ []
  none-of [] room some counted = refl
  none-of (b ∷ bs) room some counted = absurd (omega arith)

  pub read-all : (room : ℕ) (here : Filled) (out : List Cut) (block : List RawBreak) (next : NextBreaks) (words : WordBlock) → 0 < room → next.count ≡ 0 → (s : IsSoFar cell kinds pairs text cuts out here words)
      → AreNext cell kinds pairs text s.onward.breaks room block next → s.rest ≡ []
  read-all room here out block next words some none s n =
      s.onward.among ∙ ap (cuts_among here.place.words (words_ahead text here.place)) (none-of s.onward.breaks room some (sym none ∙ n.counted))

-- fewer breaks are left
pub shorter-on : (text : List ℕ) (here there next : State) (count : ℕ) (first : State) → (count ≡ 0 → ⊥) → there ≡ next → (count ≡ 0) ⊎ (breaks_left text next < breaks_left text here)
    → breaks_left text here ≤ breaks_left text first → breaks_left text there < breaks_left text first
shorter-on text here there next count first some same (inl none) onward = absurd (some none)
shorter-on text here there next count first some same (inr less) onward = (let e = ap (breaks_left text) same in omega (arith, e, less, onward))
