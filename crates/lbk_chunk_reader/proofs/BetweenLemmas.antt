-- Cuts between two bytes.
use Rattle.std.proofs.Common.{◌≡◌, ℕ, ◌+◌, ◌<◌, ◌≤◌, not, Bool, true, false, cond, nat_le, List, [], ◌∷◌, ◌++◌, length}
use Rattle.std.proofs.Common.{map, Option, Some, None, refl, sym, subst, arith, length-append}
use Rattle.std.specs.List.{list_all, AllByRecursion}
use Rattle.std.specs.Option.{unwrap_or}
use Rattle.std.specs.Char.{encode_utf8}
use Rattle.std.proofs.lemmas.Bool.Decides.{nat_tests}
use Rattle.std.proofs.lemmas.Str.{length-encode, len_utf8_bounds}
use Rattle.lbk_rules.specs.declared.Break.{Break}
use Rattle.lbk_rules.specs.declared.Cell.{Cell}
use Rattle.lbk_rules.specs.Breaks.{is_no}
use Rattle.lbk_rules.specs.Codes.{kind_number, rule_number}
use Rattle.lbk_passage.specs.Laws.{break_at}
use Rattle.lbk_passage.specs.Marks.{Marked, text_of}
use Rattle.lbk_passage.specs.Pieces.{pieces_of}
use Rattle.lbk_passage.specs.Segments.{segment_by, segments_from, segments_of}
use Rattle.lbk_passage.specs.declared.passage.Segment.{Segment}
use Rattle.lbk_chunk_reader.specs.PassageWords.{words_in_pieces}
use Rattle.lbk_words.specs.declared.word.Word.{Word}
use Rattle.lbk_chunks.specs.declared.chunk.Limits.{Limits}
use Rattle.lbk_chunks.specs.declared.cut.Cut.{Cut}
use Rattle.lbk_chunks.specs.declared.chunk.Here.{Here}
use Rattle.lbk_chunks.specs.Chunks.{cuts_past, end_of, fits, fitting, is_early, last_early, last_of}
use Rattle.lbk_chunks.specs.Coming.{AreBreaksPast, AreCutsPast}
use Rattle.lbk_chunks.specs.Cuts.{cuts_among, is_within, words_before}
use Rattle.lbk_chunk_reader.specs.Between.{AreBreaksBetween, AreCutsBetween}
use Rattle.lbk_chunk_reader.specs.Cuts.{cuts_between, cuts_of_passages}

pub between-ends : (from : ℕ) (cs : List Cut) (to : ℕ) → AreCutsBetween from cs to → from ≤ to
between-ends from [] to between = between
between-ends from (c ∷ cs) to between = let rest = between-ends c.at cs to between.1 in omega (arith, between.0, rest)

pub between-earlier : (from at : ℕ) (cs : List Cut) (to : ℕ) → from ≤ at → AreCutsBetween at cs to
    → AreCutsBetween from cs to
between-earlier from at [] to below between = omega (arith, between)
between-earlier from at (c ∷ cs) to below between = (omega (arith, between.0), between.1)

-- two parts, one behind the other
pub between-append : (from : ℕ) (cs : List Cut) (mid : ℕ) (ds : List Cut) (to : ℕ) → AreCutsBetween from cs mid
    → AreCutsBetween mid ds to → AreCutsBetween from (cs ++ ds) to
between-append from [] mid ds to first second = between-earlier from mid ds to first second
between-append from (c ∷ cs) mid ds to first second = (first.0, between-append c.at cs mid ds to first.1 second)

pub between-past : (from : ℕ) (cs : List Cut) (mid : ℕ) (ds : List Cut) → AreCutsBetween from cs mid
    → AreCutsPast mid ds → AreCutsPast from (cs ++ ds)
between-past from [] mid [] first second = tt
between-past from [] mid (d ∷ ds) first second = (omega (arith, first, second.0), second.1)
between-past from (c ∷ cs) mid ds first second = (first.0, between-past c.at cs mid ds first.1 second)

-- those past a byte
between-by : (from at : ℕ) (c : Cut) (cs : List Cut) (to : ℕ) (b : Bool) → nat_le c.at at ≡ b
    → AreCutsBetween at (cuts_past at cs) to → AreCutsBetween c.at cs to
    → AreCutsBetween at (cond b (cuts_past at cs) (c ∷ cs)) to
between-by from at c cs to true is more between = more
between-by from at c cs to false is more between = (let h : at < c.at = grind (arith, nat_tests) in h, between)

pub between-left : (from at : ℕ) (cs : List Cut) (to : ℕ) → at ≤ to → AreCutsBetween from cs to
    → AreCutsBetween at (cuts_past at cs) to
between-left from at [] to below between = below
between-left from at (c ∷ cs) to below between =
    between-by from at c cs to (nat_le c.at at) refl (between-left c.at at cs to below between.1) between.1

-- A chunk ends at one of the cuts

module _ (to : ℕ) where
  abbrev pub AreUpTo : List Cut → Type 0
  AreUpTo cs = AllByRecursion (λ (c : Cut). c.at ≤ to) cs

  abbrev FoundUpTo : Option Cut → Type 0
  FoundUpTo None = Unit {0}
  FoundUpTo (Some c) = c.at ≤ to

  pub between-up_to : (from : ℕ) (cs : List Cut) → AreCutsBetween from cs to → AreUpTo cs
  between-up_to from [] between = tt
  between-up_to from (c ∷ cs) between = (between-ends c.at cs to between.1, between-up_to c.at cs between.1)

  pub past-up_to : (at : ℕ) (cs : List Cut) → AreUpTo cs → AreUpTo (cuts_past at cs)
  past-up_to at [] all = tt
  past-up_to at (c ∷ cs) all = by (nat_le c.at at) (past-up_to at cs all.1)
    where
      by : (b : Bool) → AreUpTo (cuts_past at cs) → AreUpTo (cond b (cuts_past at cs) (c ∷ cs))
      by true rest = rest
      by false rest = all

  last-up_to : (c : Cut) (cs : List Cut) → c.at ≤ to → AreUpTo cs → (last_of c cs).at ≤ to
  last-up_to c [] first all = first
  last-up_to c (d ∷ ds) first all = last-up_to d ds all.0 all.1

  cond-list : (b : Bool) (cs : List Cut) → AreUpTo cs → AreUpTo (cond b cs [])
  cond-list true cs all = all
  cond-list false cs all = tt

  fitting-up_to : (l : Limits) (h : Here) (cs : List Cut) → AreUpTo cs → AreUpTo (fitting l h cs)
  fitting-up_to l h [] all = tt
  fitting-up_to l h (c ∷ cs) all = cond-list (fits l h c) (c ∷ fitting l h cs) (all.0, fitting-up_to l h cs all.1)

  cond-found : (b : Bool) (c : Cut) (found : Option Cut) → c.at ≤ to → FoundUpTo found
      → FoundUpTo (cond b (Some c) found)
  cond-found true c found here before = here
  cond-found false c found here before = before

  early-up_to : (l : Limits) (h : Here) (found : Option Cut) (cs : List Cut) → FoundUpTo found → AreUpTo cs
      → FoundUpTo (last_early l h found cs)
  early-up_to l h found [] before all = before
  early-up_to l h found (c ∷ cs) before all =
      early-up_to l h (cond (is_early l h c) (Some c) found) cs (cond-found (is_early l h c) c found all.0 before) all.1

  or-up_to : (found : Option Cut) (c : Cut) → FoundUpTo found → c.at ≤ to → (unwrap_or found c).at ≤ to
  or-up_to None c before here = here
  or-up_to (Some d) c before here = before

  cond-up_to : (b : Bool) (c d : Cut) → c.at ≤ to → d.at ≤ to → (cond b c d).at ≤ to
  cond-up_to true c d first second = first
  cond-up_to false c d first second = second

  pub end-up_to : (l : Limits) (h : Here) (first : Cut) (more : List Cut) → AreUpTo (first ∷ more)
      → (end_of l h first more).at ≤ to
  end-up_to l h first more all =
      let full = last_of first (fitting l h more) in
      let found = last_early l h None (first ∷ fitting l h more) in
      let good = fitting-up_to l h more all.1 in
      cond-up_to (not (fits l h first)) first (cond (list_all (fits l h) more) (last_of first more)
      (unwrap_or found full)) all.0
      (cond-up_to (list_all (fits l h) more) (last_of first more) (unwrap_or found full)
      (last-up_to first more all.0 all.1)
      (or-up_to found full (early-up_to l h None (first ∷ fitting l h more) tt (all.0, good))
      (last-up_to first (fitting l h more) all.0 good)))

-- The cuts of a passage

breaks-earlier : (from at : ℕ) (bs : List Break) (to : ℕ) → from ≤ at → AreBreaksBetween at bs to
    → AreBreaksBetween from bs to
breaks-earlier from at [] to below between = omega (arith, between)
breaks-earlier from at (b ∷ bs) to below between = (omega (arith, between.0), between.1)

cut-by : (within : Bool) (from : ℕ) (c : Cut) (more : List Cut) (to : ℕ) → from < c.at → AreCutsBetween c.at more to
    → AreCutsBetween from (cond within more (c ∷ more)) to
cut-by true from c more to below between = between-earlier from c.at more to (omega arith) between
cut-by false from c more to below between = (below, between)

among-between : (count : ℕ) (ws : List Word) (from : ℕ) (bs : List Break) (to : ℕ) → AreBreaksBetween from bs to
    → AreCutsBetween from (cuts_among count ws bs) to
among-between count ws from [] to between = between
among-between count ws from (b ∷ bs) to between =
    cut-by (is_within ws b.at) from (record {
      at = b.at;
      words = count + words_before ws b.at;
      kind = kind_number b.kind;
      rule = rule_number b.rule;
    })
    (cuts_among count ws bs) to between.0 (among-between count ws b.at bs to between.1)

break-by : (quiet : Bool) (start from at : ℕ) (s : Segment) (going broken : List Segment) (to : ℕ) → s.end ≡ at
    → start + from < start + at
    → AreBreaksBetween (start + at) (map (break_at start) going) to
    → AreBreaksBetween (start + at) (map (break_at start) broken) to
    → AreBreaksBetween (start + from) (map (break_at start) (cond quiet going (s ∷ broken))) to
break-by true start from at s going broken to is below first second =
    breaks-earlier (start + from) (start + at) (map (break_at start) going) to (omega arith) first
break-by false start from at s going broken to is below first second =
    (omega arith, subst (λ n. AreBreaksBetween (start + n) (map (break_at start) broken) to) (sym is) second)

-- the breaks of a passage
segments-between : (start from at : ℕ) (ms : List Marked)
    → AreBreaksBetween (start + at) (map (break_at start) (segments_from from at ms))
    (start + (at + length (text_of ms)))
segments-between start from at [] = omega arith
segments-between start from at (m ∷ ms) =
    let size = length (encode_utf8 m.scalar) in
    let bounds = len_utf8_bounds m.scalar in
    let place : start + (at + size + length (text_of ms)) ≡ start + (at + length (text_of (m ∷ ms))) =
    omega (arith, length-append (encode_utf8 m.scalar) (text_of ms)) in
    break-by (is_no m.after.kind) start at (at + size) (segment_by from (at + size) m.after)
    (segments_from from (at + size) ms) (segments_from (at + size) (at + size) ms)
    (start + (at + length (text_of (m ∷ ms)))) refl (omega (arith, length-encode m.scalar, bounds.0))
    (subst (AreBreaksBetween (start + (at + size)) (map (break_at start) (segments_from from (at + size) ms))) place
    (segments-between start from (at + size) ms))
    (subst (AreBreaksBetween (start + (at + size)) (map (break_at start) (segments_from (at + size) (at + size) ms)))
    place (segments-between start (at + size) (at + size) ms))

pub passage-breaks : (start : ℕ) (ms : List Marked)
    → AreBreaksBetween start (map (break_at start) (segments_of ms)) (start + length (text_of ms))
unfolding segments_of
passage-breaks start ms =
    let from : start + 0 ≡ start = omega arith in
    let to : start + (0 + length (text_of ms)) ≡ start + length (text_of ms) = omega arith in
    subst (λ n. AreBreaksBetween n (map (break_at start) (segments_from 0 0 ms)) (start + length (text_of ms))) from
    (subst (AreBreaksBetween (start + 0) (map (break_at start) (segments_from 0 0 ms))) to
    (segments-between start 0 0 ms))

pub breaks-past-from : (from : ℕ) (bs : List Break) (to : ℕ) → AreBreaksBetween from bs to → AreBreaksPast from bs
breaks-past-from from [] to between = tt
breaks-past-from from (b ∷ bs) to between = (between.0, breaks-past-from b.at bs to between.1)

pub breaks-ends : (from : ℕ) (bs : List Break) (to : ℕ) → AreBreaksBetween from bs to → from ≤ to
breaks-ends from [] to between = between
breaks-ends from (b ∷ bs) to between = let rest = breaks-ends b.at bs to between.1 in omega (arith, between.0, rest)

pub breaks-past-append : (from : ℕ) (bs : List Break) (mid : ℕ) (cs : List Break) → AreBreaksBetween from bs mid
    → AreBreaksPast mid cs → AreBreaksPast from (bs ++ cs)
breaks-past-append from [] mid [] first second = tt
breaks-past-append from [] mid (c ∷ cs) first second = (omega (arith, first, second.0), second.1)
breaks-past-append from (b ∷ bs) mid cs first second = (first.0, breaks-past-append b.at bs mid cs first.1 second)

pub passage-between : (cell : ℕ → Cell) (start words : ℕ) (ms : List Marked)
    → AreCutsBetween start (cuts_between start words (segments_of ms) (pieces_of cell (text_of ms)))
    (start + length (text_of ms))
passage-between cell start words ms =
    among-between words (words_in_pieces start (pieces_of cell (text_of ms))) start
    (map (break_at start) (segments_of ms)) (start + length (text_of ms)) (passage-breaks start ms)

-- the cuts of all passages
pub passages-rising : (cell : ℕ → Cell) (start words : ℕ) (ps : List (List Marked))
    → AreCutsPast start (cuts_of_passages cell start words ps)
passages-rising cell start words [] = tt
passages-rising cell start words (ms ∷ ps) =
    let pieces = pieces_of cell (text_of ms) in
    between-past start (cuts_between start words (segments_of ms) pieces) (start + length (text_of ms))
    (cuts_of_passages cell (start + length (text_of ms)) (words + length (words_in_pieces start pieces)) ps)
    (passage-between cell start words ms)
    (passages-rising cell (start + length (text_of ms)) (words + length (words_in_pieces start pieces)) ps)
