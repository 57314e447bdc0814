-- The breaks of a text, of which some were found.
use Rattle.std.proofs.Common.{◌≡◌, ℕ, suc, ◌+◌, ◌-◌, ◌≤◌, ◌<◌, min, true, false, cond, ◌⊎◌, inl, inr, List, [], ◌∷◌, ◌++◌, length, map, take, drop, refl, sym, ap, ap₂, subst, ◌∙◌, arith, lit<}
use Rattle.std.specs.Char.{encode_utf8}
use Rattle.std.specs.Str.{IsUtf8, chars, encode_utf8_all}
use Rattle.std.proofs.lemmas.Bool.{false≢true}
use Rattle.std.proofs.lemmas.List.{append-nil, get_or-take, length-append, length-drop, length-map, length-take-le, take-append-drop}
use Rattle.std.proofs.lemmas.Str.{chars-encodes, encodes-chars, length-le-encodes}
use Rattle.std.proofs.Math.Seq.{drop-append-add, drop-append_seam, drop-drop, drop-length}
use lib.Utf8.{scalars}
use Rattle.bstr.specs.Utf8.{pieces}
use Rattle.bstr.proofs.lemmas.EncodeLemmas.{lossy_chars-encode}
use Rattle.bstr.proofs.lemmas.PieceLemmas.{pieces-nil}
use Rattle.lbk_rules.specs.declared.Break.{Break}
use Rattle.lbk_rules.specs.declared.Cell.{Cell}
use Rattle.lbk_values.specs.declared.profile.Profile.{Profile}
use Rattle.lbk_rules.specs.Breaks.{break_by, breaks, breaks_from, is_no}
use Rattle.lbk_rules.specs.FlatTable.{KnowsTaken}
use Rattle.lbk_rules.specs.Marks.{Marked, marks, marks_behind, scalars_of}
use Rattle.lbk_rules.specs.Rows.{IsPlace}
use Rattle.lbk_rules.proofs.FlatLemmas.{left-start}
use Rattle.lbk_rules.proofs.MarkLemmas.{scalars-behind}
use Rattle.lbk_words.proofs.FillLemmas.{gives}
use Rattle.lbk_words.proofs.WellFormedLemmas.{good_of, pieces-encode}
use Rattle.lbk_bytes.specs.declared.fill_state.FillState.{FillState}
use Rattle.lbk_bytes.specs.declared.raw_break.RawBreak.{RawBreak}
use Rattle.lbk_bytes.specs.Bytes.{breaks_after, breaks_of_bytes, closed_end, with_break}
use Rattle.lbk_bytes.specs.Order.{AreBreaks, IsBreak, no_break}
use Rattle.lbk_bytes.specs.Reached.{Reached, onward_to}
use Rattle.lbk_bytes.specs.Shown.{given_in, shown}
use Rattle.lbk_bytes.proofs.ReachedLemmas.{given-many, onward-start}
use Rattle.lbk_passage.specs.declared.found.Progress.{Progress}
use Rattle.lbk_passage.specs.Found.{FindsNext, IsFound, left_after}

-- Well-formed text

breaks-good : (at : ℕ) (ms : List Marked) → breaks_after at (map good_of (scalars_of ms)) ms ≡ breaks_from at ms
breaks-good at [] = refl
breaks-good at (m ∷ ms) =
    let end = at + length (encode_utf8 m.scalar) in
    ap (with_break end m.after) (breaks-good end ms)

pub breaks-encoded : (profile : Profile) (cell : ℕ → Cell) (cs : List ℕ) → scalars cs ≡ true
    → breaks_of_bytes profile cell (encode_utf8_all cs) ≡ breaks profile cell cs
breaks-encoded profile cell cs all =
    ap₂ (λ ps ds. breaks_after 0 ps (marks profile cell ds)) (pieces-encode cs all) (lossy_chars-encode cs all)
    ∙ ap (λ ds. breaks_after 0 (map good_of ds) (marks profile cell cs)) (sym (scalars-behind profile cell [] cs))
    ∙ breaks-good 0 (marks profile cell cs)

breaks-utf8 : (profile : Profile) (cell : ℕ → Cell) (text : List ℕ) → IsUtf8 text
    → breaks_of_bytes profile cell text ≡ breaks profile cell (chars text)
breaks-utf8 profile cell text utf8 =
    subst (λ t. breaks_of_bytes profile cell t ≡ breaks profile cell (chars t)) utf8.1.1
    (breaks-encoded profile cell utf8.0 utf8.1.0 ∙ ap (λ l. breaks profile cell l) (sym (chars-encodes utf8.0 utf8.1.0)))

-- no more breaks than scalars

breaks-few : (at : ℕ) (ms : List Marked) → length (breaks_from at ms) ≤ length ms
breaks-few at [] = omega arith
breaks-few at (m ∷ ms) =
    let end = at + length (encode_utf8 m.scalar) in
    let rest = breaks-few end ms in
    elim (is_no m.after.kind)
    as (λ k. length (cond k (breaks_from end ms) (break_by end m.after ∷ breaks_from end ms)) ≤ suc (length ms))
    [ true ↦ omega arith | false ↦ omega arith ]

marks-many : (profile : Profile) (cell : ℕ → Cell) (before cs : List ℕ) → length (marks_behind profile cell before cs) ≡ length cs
marks-many profile cell before [] = refl
marks-many profile cell before (c ∷ cs) = ap suc (marks-many profile cell (before ++ c ∷ []) cs)

breaks-most : (profile : Profile) (cell : ℕ → Cell) (text : List ℕ) → IsUtf8 text → length (breaks profile cell (chars text)) ≤ length text
breaks-most profile cell text utf8 =
    let few = breaks-few 0 (marks_behind profile cell [] (chars text)) in
    let many = marks-many profile cell [] (chars text) in
    let short = length-le-encodes (chars text) in
    let same = ap length (encodes-chars text utf8) in
    omega arith

pub IsFound-start : (profile : Profile) (cell : ℕ → Cell) (text : List ℕ) → IsUtf8 text
    → IsFound profile cell text (record { state = record { count = 0; row = 0; at = 0 }; ended = false })
IsFound-start profile cell text utf8 = record {
  place = ((refl, lit< tt), omega arith);
  within = omega arith;
  goes_on = λ _. record {
    taken = [];
    knows = ((refl, lit< tt), left-start);
    some = λ more. absurd (omega arith);
    joined = sym (breaks-utf8 profile cell text utf8) ∙ onward-start profile cell (pieces text);
  };
  none_left = λ ended. absurd (false≢true ended);
}

-- Some more found

drop-more : (n count : ℕ) (all front more : List Break) → n ≤ length all → drop n all ≡ front ++ more → length front ≡ count
    → drop (n + count) all ≡ more
drop-more n count all front more within joined many =
    ap (λ k. drop (k + count) all) (sym (length-take-le n all within))
    ∙ ap (drop (length (take n all) + count)) (sym (take-append-drop n all))
    ∙ drop-append-add (take n all) (drop n all) count
    ∙ ap (drop count) joined
    ∙ ap (λ k. drop k (front ++ more)) (sym many)
    ∙ drop-append_seam front more

within-more : (n count : ℕ) (all front more : List Break) → n ≤ length all → drop n all ≡ front ++ more → length front ≡ count → n + count ≤ length all
within-more n count all front more within joined many =
    let whole = ap length joined in
    omega (arith, length-drop n all, length-append front more)

module _ {profile : Profile} {cell : ℕ → Cell} {text : List ℕ} {from : Progress} (found : IsFound profile cell text from) where
  abbrev pub all : List Break
  all = breaks profile cell (chars text)

  abbrev pub to_come : List Break
  to_come = left_after profile cell text from

  -- a call goes on from where the first breaks were found to
  pub reached-on : from.ended ≡ false → {here : FillState} {front : List Break}
      → (Reached profile cell text (record { breaks = to_come; end = closed_end }) (record { count = 0; row = from.state.row; at = from.state.at }) []
      → Reached profile cell text (record { breaks = to_come; end = closed_end }) here front)
      → Reached profile cell text (record { breaks = to_come; end = closed_end }) here front
  reached-on goes_on fill = fill (found.goes_on goes_on)

  same-count : (count : ℕ) → from.state.count + count - from.state.count ≡ count
  same-count count = omega arith

  -- so many are in a block, and those behind them come next
  record Finds (out : List RawBreak) (count room : ℕ) (more : List Break) : Type 0 where
    counted : from.state.count + count ≡ from.state.count + min room (length to_come)
    breaks : AreBreaks out (from.state.count + count - from.state.count)
    front : given_in out (from.state.count + count - from.state.count) ≡ take (from.state.count + count - from.state.count) to_come
    rest : drop (from.state.count + count) all ≡ more
    within : from.state.count + count ≤ length all

  finds : (out : List RawBreak) (count room : ℕ) (more : List Break) → to_come ≡ given_in out count ++ more → count ≤ length out → count ≤ room
      → (count ≡ room) ⊎ (more ≡ []) → AreBreaks out count → Finds out count room more
  finds out count room more joined few within full each =
      let many = given-many out count few in
      let g = gives to_come (given_in out count) more count room joined many within full in
      record {
        counted = ap (λ n. from.state.count + n) g.counted;
        breaks = subst (AreBreaks out) (sym (same-count count)) each;
        front = subst (λ n. given_in out n ≡ take n to_come) (sym (same-count count)) g.same;
        rest = drop-more from.state.count count all (given_in out count) more found.within joined many;
        within = within-more from.state.count count all (given_in out count) more found.within joined many;
      }

  pub Finds-none : (out : List RawBreak) (room : ℕ) → from.ended ≡ true → FindsNext profile cell text from from room out
  Finds-none out room ended =
      let none : from.state.count - from.state.count ≡ 0 = omega arith in
      let no_more = ap length (found.none_left ended) in
      record {
        found = found;
        count = omega (arith, no_more);
        breaks = λ k below. absurd (omega arith);
        front = subst (λ n. given_in out n ≡ take n to_come) (sym none) refl;
        full = λ goes_on. absurd (false≢true (sym goes_on ∙ ended));
      }

  -- how many are found, in a text of so many bytes
  pub found-few : (here : FillState) (out : List RawBreak) (count : ℕ) (more : List Break) → IsUtf8 text
      → to_come ≡ given_in out count ++ more → count ≤ length out → from.state.count + count ≤ length text
  found-few here out count more utf8 joined few =
      let within = within-more from.state.count count all (given_in out count) more found.within joined (given-many out count few) in
      omega (arith, within, breaks-most profile cell text utf8)

  -- the block is full
  pub Finds-full : (here : FillState) (out : List RawBreak) (room : ℕ)
      → Reached profile cell text (record { breaks = to_come; end = closed_end }) here (given_in out here.count)
      → IsPlace here.row → here.at ≤ length text → here.count ≤ length out → here.count ≡ room → AreBreaks out here.count
      → FindsNext profile cell text from (record { state = record { count = from.state.count + here.count; row = here.row; at = here.at }; ended = false }) room out
  Finds-full here out room r row at few full each =
      let more = onward_to closed_end profile cell r.taken here.at (pieces (drop here.at text)) in
      let f = finds out here.count room more r.joined few (omega arith) (inl full) each in
      record {
        found = record {
          place = (row, at);
          within = f.within;
          goes_on = λ _. record { taken = r.taken; knows = r.knows; some = r.some; joined = f.rest };
          none_left = λ ended. absurd (false≢true ended);
        };
        count = f.counted;
        breaks = f.breaks;
        front = f.front;
        full = λ _. ap (λ n. from.state.count + n) full;
      }

  -- all of the text was taken, and the break at its end is the last
  at-end : (here : FillState) (before out : List RawBreak) (count : ℕ)
      → (r : Reached profile cell text (record { breaks = to_come; end = closed_end }) here (given_in before here.count)) → here.at ≡ length text
      → ((taken : List ℕ) → KnowsTaken cell here.row taken → (0 < here.row → 0 < length taken)
      → given_in out count ≡ given_in before here.count ++ closed_end profile cell taken (length text))
      → to_come ≡ given_in out count ++ []
  at-end here before out count r ends put =
      let none_left : pieces (drop here.at text) ≡ [] = ap (λ n. pieces (drop n text)) ends ∙ ap pieces (drop-length text) ∙ pieces-nil in
      r.joined ∙ ap (λ ps. given_in before here.count ++ onward_to closed_end profile cell r.taken here.at ps) none_left
      ∙ ap (λ n. given_in before here.count ++ closed_end profile cell r.taken n) ends ∙ sym (put r.taken r.knows r.some)
      ∙ sym (append-nil (given_in out count))

  pub Finds-end : (here : FillState) (before out : List RawBreak) (count room : ℕ)
      → Reached profile cell text (record { breaks = to_come; end = closed_end }) here (given_in before here.count) → here.at ≡ length text
      → ((taken : List ℕ) → KnowsTaken cell here.row taken → (0 < here.row → 0 < length taken)
      → given_in out count ≡ given_in before here.count ++ closed_end profile cell taken (length text))
      → IsPlace here.row → here.at ≤ length text → count ≤ length out → count ≤ room → AreBreaks out count
      → FindsNext profile cell text from (record { state = record { count = from.state.count + count; row = here.row; at = here.at }; ended = true }) room out
  Finds-end here before out count room r ends put row at few within each =
      let f = finds out count room [] (at-end here before out count r ends put) few within (inr refl) each in
      record {
        found = record {
          place = (row, at);
          within = f.within;
          goes_on = λ goes_on. absurd (false≢true (sym goes_on));
          none_left = λ _. f.rest;
        };
        count = f.counted;
        breaks = f.breaks;
        front = f.front;
        full = λ goes_on. absurd (false≢true (sym goes_on));
      }

  pub end-few : (here : FillState) (before out : List RawBreak) (count : ℕ) → IsUtf8 text
      → Reached profile cell text (record { breaks = to_come; end = closed_end }) here (given_in before here.count) → here.at ≡ length text
      → ((taken : List ℕ) → KnowsTaken cell here.row taken → (0 < here.row → 0 < length taken)
      → given_in out count ≡ given_in before here.count ++ closed_end profile cell taken (length text))
      → count ≤ length out → from.state.count + count ≤ length text
  end-few here before out count utf8 r ends put few = found-few here out count [] utf8 (at-end here before out count r ends put) few

-- what a call found, and what comes behind it, is what was left
module _ {profile : Profile} {cell : ℕ → Cell} {text : List ℕ} {from to : Progress} {room : ℕ} {out : List RawBreak}
    (f : FindsNext profile cell text from to room out) where
  pub left-on : left_after profile cell text to ≡ drop (to.state.count - from.state.count) (left_after profile cell text from)
  left-on =
      let more : from.state.count + (to.state.count - from.state.count) ≡ to.state.count = omega (arith, f.count) in
      ap (λ n. drop n (breaks profile cell (chars text))) (sym more) ∙ sym (drop-drop (to.state.count - from.state.count) from.state.count (breaks profile cell (chars text)))

  pub rest-on : given_in out (to.state.count - from.state.count) ++ left_after profile cell text to ≡ left_after profile cell text from
  rest-on =
      ap₂ (λ (g l : List Break). g ++ l) f.front left-on ∙ take-append-drop (to.state.count - from.state.count) (left_after profile cell text from)

  pub found-many : length (given_in out (to.state.count - from.state.count)) ≡ to.state.count - from.state.count
  found-many =
      let left = left_after profile cell text from in
      ap length f.front ∙ length-take-le (to.state.count - from.state.count) left (omega (arith, f.count))

  pub left-many : length (left_after profile cell text to) + (to.state.count - from.state.count) ≡ length (left_after profile cell text from)
  left-many =
      let left = left_after profile cell text from in
      omega (arith, ap length left-on, length-drop (to.state.count - from.state.count) left, f.count)

  pub taken-many : length (take (to.state.count - from.state.count) out) ≡ to.state.count - from.state.count
  taken-many = sym (length-map (take (to.state.count - from.state.count) out) shown) ∙ found-many

  pub taken-breaks : AreBreaks (take (to.state.count - from.state.count) out) (length (take (to.state.count - from.state.count) out))
  taken-breaks k below =
      let n = to.state.count - from.state.count in
      let here : k < n = omega (arith, taken-many) in
      subst IsBreak (sym (get_or-take n out k no_break here)) (f.breaks k here)
