-- The segments of a passage, by the breaks of its text alone.
use Rattle.std.proofs.Common.{◌≡◌, ℕ, ◌+◌, ◌-◌, ◌<◌, Bool, true, false, cond, All, List, [], ◌∷◌, ◌++◌, map, length, take, encode_utf8_all, refl, sym, ap, ◌∙◌, arith}
use Rattle.std.specs.Char.{encode_utf8}
use Rattle.std.specs.Str.{IsUtf8, chars}
use Rattle.std.proofs.lemmas.List.{append_cancel_left, length-append, length_push, map-append, take_at}
use Rattle.std.proofs.lemmas.List.Elements.{All-cons, All-head, All-nil, All-tail}
use Rattle.std.proofs.lemmas.Str.{encodes-chars}
use Rattle.lbk_rules.specs.declared.Break.{Break}
use Rattle.lbk_rules.specs.declared.Cell.{Cell}
use Rattle.lbk_values.specs.declared.profile.Profile.{Profile}
use Rattle.lbk_rules.specs.declared.Verdict.{Verdict}
use Rattle.lbk_rules.specs.Verdict.{verdict_between_in}
use Rattle.lbk_rules.proofs.EndLemmas.{must_at_end}
use Rattle.lbk_bytes.specs.declared.raw_break.RawBreak.{RawBreak}
use Rattle.lbk_bytes.specs.Shown.{given_in, shown}
use Rattle.lbk_passage.specs.declared.found.Progress.{Progress}
use Rattle.lbk_passage.specs.declared.passage.Segment.{Segment}
use Rattle.lbk_passage.specs.Breaks.{break_by, breaks, breaks_from, is_no}
use Rattle.lbk_passage.specs.Found.{FindsNext, left_after}
use Rattle.lbk_passage.proofs.FoundLemmas.{rest-on}
use Rattle.lbk_passage.specs.Cuts.{cut_at, ending_by}
use Rattle.lbk_passage.specs.Marks.{Marked, ended, marks, marks_behind, scalars_of}
use Rattle.lbk_passage.specs.Segments.{segment_by, segments_from, segments_of}
use Rattle.lbk_rules.proofs.MarkLemmas.{scalars-behind}

-- The segments of some marks end at their breaks

pub length-cut : (start : ℕ) (bs : List Break) → length (cut_at start bs) ≡ length bs
length-cut start [] = refl
length-cut start (b ∷ bs) = let rest = length-cut b.at bs in omega (arith, rest)

-- the segments of a block of breaks, and those of the breaks behind it, are those of what was left
pub cut-on : {profile : Profile} {cell : ℕ → Cell} {text : List ℕ} {from to : Progress} {room : ℕ} {out : List RawBreak}
    → FindsNext profile cell text from to room out → (before after : List Segment) (start next : ℕ)
    → ((more : List Break) → after ++ cut_at next more ≡ before ++ cut_at start (given_in out (to.state.count - from.state.count) ++ more))
    → after ++ cut_at next (left_after profile cell text to) ≡ before ++ cut_at start (left_after profile cell text from)
cut-on {profile} {cell} {text} {from} {to} f before after start next cut =
    cut (left_after profile cell text to) ∙ ap (λ bs. before ++ cut_at start bs) (rest-on f)

pub segments-cut : (start at : ℕ) (ms : List Marked) → segments_from start at ms ≡ cut_at start (breaks_from at ms)
segments-cut start at [] = refl
segments-cut start at (m ∷ ms) =
    let end = at + length (encode_utf8 m.scalar) in
    elim (is_no m.after.kind)
    as (λ k. cond k (segments_from start end ms) (segment_by start end m.after ∷ segments_from end end ms)
    ≡ cut_at start (cond k (breaks_from end ms) (break_by end m.after ∷ breaks_from end ms)))
    [ true ↦ segments-cut start end ms | false ↦ ap (λ l. segment_by start end m.after ∷ l) (segments-cut end end ms) ]

-- The last one, which ends where the text does

abbrev EndsByBreak : List Marked → Type 0
EndsByBreak [] = ⊥
EndsByBreak (m ∷ []) = is_no m.after.kind ≡ false
EndsByBreak (m ∷ n ∷ ms) = EndsByBreak (n ∷ ms)

marks-end : (profile : Profile) (cell : ℕ → Cell) (before : List ℕ) (c : ℕ) (cs : List ℕ) → EndsByBreak (marks_behind profile cell before (c ∷ cs))
marks-end profile cell before c [] =
    ap (λ v. is_no v.kind)
    (ap (λ l. verdict_between_in profile l []) (map-append cell before (c ∷ [])) ∙ must_at_end profile (map cell before) (cell c))
marks-end profile cell before c (d ∷ ds) = marks-end profile cell (before ++ c ∷ []) d ds

record Last (start at : ℕ) (ms : List Marked) : Type 0 where
  front : List Segment
  last : Segment
  is : segments_from start at ms ≡ front ++ last ∷ []
  other : (end : Verdict) → segments_from start at (ended end ms) ≡ front ++ ending_by end last

segments-last : (start at : ℕ) (m : Marked) (ms : List Marked) → EndsByBreak (m ∷ ms) → Last start at (m ∷ ms)
segments-last start at m [] ends =
    let end = at + length (encode_utf8 m.scalar) in
    record {
      front = [];
      last = segment_by start end m.after;
      is = ap (λ k. cond k [] (segment_by start end m.after ∷ [])) ends;
      other = λ v. refl;
    }
segments-last start at m (n ∷ ms) ends =
    let end = at + length (encode_utf8 m.scalar) in
    by (segments-last start end n ms ends) (segments-last end end n ms ends) (is_no m.after.kind) refl
  where
    end : ℕ
    end = at + length (encode_utf8 m.scalar)

    step : (k : Bool) → is_no m.after.kind ≡ k → (l : List Marked)
        → cond (is_no m.after.kind) (segments_from start end l) (segment_by start end m.after ∷ segments_from end end l)
        ≡ cond k (segments_from start end l) (segment_by start end m.after ∷ segments_from end end l)
    step k is l = ap (λ k. cond k (segments_from start end l) (segment_by start end m.after ∷ segments_from end end l)) is

    by : Last start end (n ∷ ms) → Last end end (n ∷ ms) → (k : Bool) → is_no m.after.kind ≡ k → Last start at (m ∷ n ∷ ms)
    by quiet broken true is = record {
      front = quiet.front;
      last = quiet.last;
      is = step true is (n ∷ ms) ∙ quiet.is;
      other = λ v. step true is (ended v (n ∷ ms)) ∙ quiet.other v;
    }
    by quiet broken false is = record {
      front = segment_by start end m.after ∷ broken.front;
      last = broken.last;
      is = step false is (n ∷ ms) ∙ ap (λ l. segment_by start end m.after ∷ l) broken.is;
      other = λ v. step false is (ended v (n ∷ ms)) ∙ ap (λ l. segment_by start end m.after ∷ l) (broken.other v);
    }

-- the same in two lists that end by one element each

abbrev first_or : Segment → List Segment → Segment
first_or d [] = d
first_or d (x ∷ xs) = x

record SameEnds (xs ys : List Segment) (x y : Segment) : Type 0 where
  front : xs ≡ ys
  last : x ≡ y

same_ends : (xs ys : List Segment) (x y : Segment) → xs ++ x ∷ [] ≡ ys ++ y ∷ [] → SameEnds xs ys x y
same_ends xs ys x y same =
    let long = ap length same in
    let many : length xs ≡ length ys = omega (arith, length_push xs x, length_push ys y) in
    let front : xs ≡ ys = sym (take_at xs (x ∷ []) (length ys) many) ∙ ap (take (length ys)) same ∙ take_at ys (y ∷ []) (length ys) refl in
    record { front = front; last = ap (first_or x) (append_cancel_left ys (x ∷ []) (y ∷ []) (ap (λ l. l ++ x ∷ []) (sym front) ∙ same)) }

-- the segments of a passage, from those of its text alone, whose last was taken off
pub segments-replaced : (profile : Profile) (cell : ℕ → Cell) (cs : List ℕ) (end : Verdict) (front : List Segment) (x : Segment)
    → front ++ x ∷ [] ≡ cut_at 0 (breaks profile cell cs)
    → front ++ ending_by end x ≡ segments_of (ended end (marks profile cell cs))
unfolding segments_of
segments-replaced profile cell [] end front x cut =
    let long = ap length cut in
    absurd (omega (arith, length_push front x))
segments-replaced profile cell (c ∷ cs) end front x cut =
    let all = marks_behind profile cell [] (c ∷ cs) in
    let l : Last 0 0 all = segments-last 0 0 _ _ (marks-end profile cell [] c cs) in
    let same = same_ends front l.front x l.last (cut ∙ sym (segments-cut 0 0 all) ∙ l.is) in
    ap (λ f. f ++ ending_by end x) same.front ∙ ap (λ s. l.front ++ ending_by end s) same.last ∙ sym (l.other end)

-- as many as the breaks of the text, where a line may break behind the last
pub segments-many : (profile : Profile) (cell : ℕ → Cell) (cs : List ℕ) (end : Verdict) → is_no end.kind ≡ false
    → length (segments_of (ended end (marks profile cell cs))) ≡ length (breaks profile cell cs)
unfolding segments_of
segments-many profile cell [] end broken = refl
segments-many profile cell (c ∷ cs) end broken =
    let all = marks_behind profile cell [] (c ∷ cs) in
    let l : Last 0 0 all = segments-last 0 0 _ _ (marks-end profile cell [] c cs) in
    ap length (l.other end ∙ ap (λ k. l.front ++ cond k [] (segment_by l.last.start l.last.end end ∷ [])) broken)
    ∙ length_push l.front (segment_by l.last.start l.last.end end) ∙ sym (length_push l.front l.last)
    ∙ ap length (sym l.is ∙ segments-cut 0 0 all) ∙ length-cut 0 (breaks profile cell (c ∷ cs))

-- none of none
pub segments-none : (profile : Profile) (cell : ℕ → Cell) (cs : List ℕ) (end : Verdict) (segments : List Segment) → length segments ≡ 0
    → segments ≡ cut_at 0 (breaks profile cell cs) → segments ≡ segments_of (ended end (marks profile cell cs))
unfolding segments_of
segments-none profile cell [] end segments none cut = cut
segments-none profile cell (c ∷ cs) end segments none cut =
    let all = marks_behind profile cell [] (c ∷ cs) in
    let l : Last 0 0 all = segments-last 0 0 _ _ (marks-end profile cell [] c cs) in
    let long = ap length (cut ∙ sym (segments-cut 0 0 all) ∙ l.is) in
    absurd (omega (arith, length_push l.front l.last))

-- The breaks of a text lie within it

pub breaks-below : (limit at : ℕ) (ms : List Marked) → at + length (encode_utf8_all (scalars_of ms)) < limit → All (λ one. one.at < limit) (breaks_from at ms)
breaks-below limit at [] below = All-nil (λ one. one.at < limit)
breaks-below limit at (m ∷ ms) below =
    let end = at + length (encode_utf8 m.scalar) in
    let sum = length-append (encode_utf8 m.scalar) (encode_utf8_all (scalars_of ms)) in
    let rest = breaks-below limit end ms (omega arith) in
    let here : end < limit = omega arith in
    elim (is_no m.after.kind)
    as (λ k. All (λ one. one.at < limit) (cond k (breaks_from end ms) (break_by end m.after ∷ breaks_from end ms)))
    [ true ↦ rest | false ↦ All-cons (λ one. one.at < limit) (break_by end m.after) (breaks_from end ms) here rest ]

pub breaks-within : (limit : ℕ) (profile : Profile) (cell : ℕ → Cell) (text : List ℕ) → IsUtf8 text → length text < limit
    → All (λ one. one.at < limit) (breaks profile cell (chars text))
breaks-within limit profile cell text utf8 below =
    let all = marks_behind profile cell [] (chars text) in
    let same : length (encode_utf8_all (scalars_of all)) ≡ length text =
    ap (λ cs. length (encode_utf8_all cs)) (scalars-behind profile cell [] (chars text)) ∙ ap length (encodes-chars text utf8) in
    breaks-below limit 0 all (omega arith)

-- so do those that stand for them as numbers
pub raw-within : (limit : ℕ) (raw : List RawBreak) → All (λ one. one.at < limit) (map shown raw) → All (λ one. one.at < limit) raw
raw-within limit [] below = All-nil (λ one. one.at < limit)
raw-within limit (r ∷ rs) below =
    All-cons (λ one. one.at < limit) r rs (All-head (λ one. one.at < limit) (shown r) (map shown rs) below)
    (raw-within limit rs (All-tail (λ one. one.at < limit) (shown r) (map shown rs) below))
