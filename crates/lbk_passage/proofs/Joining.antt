-- The passages of the parts of a text, joined, and what is said of them.
use Rattle.std.proofs.Common.{◌≡◌, ℕ, ◌+◌, Bool, true, false, cond, List, [], ◌∷◌, ◌++◌, map, length, encode_utf8, encode_utf8_all, refl, sym, ap, ◌∙◌, append_assoc, append-nil, arith, length-append}
use Rattle.std.specs.List.{AllByRecursion, flat_map}
use Rattle.std.proofs.lemmas.Bool.{false≢true}
use Rattle.std.proofs.lemmas.List.{map-append}
use Rattle.lbk_rules.specs.declared.Cell.{Cell}
use Rattle.lbk_rules.specs.declared.Kind.TheVariants.{Must}
use Rattle.lbk_rules.specs.declared.Rule.{Rule}
use Rattle.lbk_rules.specs.declared.Verdict.{Verdict}
use Rattle.lbk_values.specs.declared.profile.Profile.{Profile}
use Rattle.lbk_rules.specs.Breaks.{is_no}
use Rattle.lbk_rules.specs.Ends.{end_of_text}
use Rattle.lbk_rules.specs.Joins.{AreParts, end_before_more, must_end_between, of_parts, with_last}
use Rattle.lbk_rules.specs.Marks.{Marked, ended, marks, scalars_of, text_of}
use Rattle.lbk_rules.proofs.JoinLemmas.{JoinsTwo, end_before_more-must, joined-marks, joined-parts, with_last-snoc}
use Rattle.lbk_rules.proofs.MarkLemmas.{last-marks, scalars-ended}
use Rattle.lbk_passage.specs.Laws.{EndsOnce}
use Rattle.lbk_passage.specs.Parts.{moved_piece, moved_segment, of_passages, passages_in, pieces_at, pieces_in, segment_by_rule, segments_at, segments_before, segments_in}
use Rattle.lbk_passage.specs.Passages.{cut_after, ends_passage, join_first, passages}
use Rattle.lbk_passage.specs.Pieces.{pieces_of}
use Rattle.lbk_passage.specs.Segments.{segment_by, segments_from, segments_of}
use Rattle.lbk_passage.specs.declared.passage.Piece.{Piece}
use Rattle.lbk_passage.specs.declared.passage.Segment.{Segment}
use Rattle.lbk_passage.proofs.Cutting.{Holds, IsClosed, cut_after-alone, cut_after-append, cut_after-open, cut_after-step}
use Rattle.lbk_passage.proofs.Marking.{is_must-kind, marks-closed}
use Rattle.lbk_passage.proofs.Together.{passages-end, passages-scalars, texts-joined}

-- Passages

module _ (rule : Rule) where
  -- a part with an element put in front of its first, where the last changes
  put_first : (m x : Marked) (xs : List Marked) (others : List (List Marked))
      → join_first m (with_last (ended (record { kind = Must; rule = rule })) ((x ∷ xs) ∷ others))
      ≡ with_last (ended (record { kind = Must; rule = rule })) (join_first m ((x ∷ xs) ∷ others))
  put_first m x xs [] = refl
  put_first m x xs (o ∷ os) = refl

  cut_after-ended : (ms : List Marked) → IsClosed ends_passage ms
      → cut_after ends_passage (ended (record { kind = Must; rule = rule }) ms) ≡ with_last (ended (record { kind = Must; rule = rule })) (cut_after ends_passage ms)
  cut_after-ended [] closed = refl
  cut_after-ended (m ∷ []) closed = ap (with_last (ended (record { kind = Must; rule = rule }))) (sym (cut_after-alone ends_passage (m ∷ []) closed))
  cut_after-ended (m ∷ n ∷ ms) closed = by (cut_after-ended (n ∷ ms) closed) (cut_after-open ends_passage n [] ms tt) (ends_passage m) refl
    where
      by : cut_after ends_passage (ended (record { kind = Must; rule = rule }) (n ∷ ms)) ≡ with_last (ended (record { kind = Must; rule = rule })) (cut_after ends_passage (n ∷ ms))
          → (h : Holds ends_passage (n ∷ []) (cut_after ends_passage (n ∷ ms))) → (b : Bool) → ends_passage m ≡ b
          → cut_after ends_passage (m ∷ ended (record { kind = Must; rule = rule }) (n ∷ ms)) ≡ with_last (ended (record { kind = Must; rule = rule })) (cut_after ends_passage (m ∷ n ∷ ms))
      by rest h true is =
          cut_after-step ends_passage m (ended (record { kind = Must; rule = rule }) (n ∷ ms)) true is
          ∙ ap (λ l. (m ∷ []) ∷ l) (rest ∙ ap (with_last (ended (record { kind = Must; rule = rule }))) h.is)
          ∙ ap (with_last (ended (record { kind = Must; rule = rule }))) (ap (λ l. (m ∷ []) ∷ l) (sym h.is) ∙ sym (cut_after-step ends_passage m (n ∷ ms) true is))
      by rest h false is =
          cut_after-step ends_passage m (ended (record { kind = Must; rule = rule }) (n ∷ ms)) false is
          ∙ ap (join_first m) (rest ∙ ap (with_last (ended (record { kind = Must; rule = rule }))) h.is)
          ∙ put_first m n h.behind h.others
          ∙ ap (with_last (ended (record { kind = Must; rule = rule }))) (ap (join_first m) (sym h.is) ∙ sym (cut_after-step ends_passage m (n ∷ ms) false is))

  closed-ended : (ms : List Marked) → IsClosed ends_passage ms → IsClosed ends_passage (ended (record { kind = Must; rule = rule }) ms)
  closed-ended [] closed = tt
  closed-ended (m ∷ []) closed = refl
  closed-ended (m ∷ n ∷ []) closed = refl
  closed-ended (m ∷ n ∷ o ∷ ms) closed = closed-ended (n ∷ o ∷ ms) closed

module _ (profile : Profile) (cell : ℕ → Cell) where
  pub joined-passages : (first second : List ℕ) → must_end_between cell first second ≡ true
      → passages profile cell (first ++ second) ≡ passages_in profile cell true first ++ passages profile cell second
  unfolding passages
  joined-passages [] second ends = absurd (false≢true ends)
  joined-passages (c ∷ cs) second ends =
      let ms = marks profile cell (c ∷ cs) in
      let rule = (end_before_more cell (c ∷ cs)).rule in
      let same = end_before_more-must cell c cs in
      let closed = marks-closed profile cell [] (c ∷ cs) in
      ap (cut_after ends_passage) (joined-marks profile cell (c ∷ cs) second ends ∙ ap (λ v. ended v ms ++ marks profile cell second) same)
      ∙ cut_after-append ends_passage (ended (record { kind = Must; rule = rule }) ms) (marks profile cell second) (closed-ended rule ms closed)
      ∙ ap (λ l. l ++ cut_after ends_passage (marks profile cell second)) (cut_after-ended rule ms closed)
      ∙ ap (λ v. with_last (ended v) (cut_after ends_passage ms) ++ cut_after ends_passage (marks profile cell second)) (sym same)

  -- of a text alone the last ends by rule 3
  pub passages-at_end : (text : List ℕ) → passages profile cell text ≡ with_last (ended end_of_text) (passages profile cell text)
  unfolding passages
  passages-at_end [] = refl
  passages-at_end (c ∷ cs) =
      ap (cut_after ends_passage) (last-marks profile cell [] c cs)
      ∙ cut_after-ended end_of_text.rule (marks profile cell (c ∷ cs)) (marks-closed profile cell [] (c ∷ cs))

  pub joined-passages_of_parts : (parts : List (List ℕ)) → AreParts cell parts
      → passages profile cell (flat_map (λ part. part) parts) ≡ of_parts (λ at. passages_in profile cell) 0 parts
  unfolding passages
  joined-passages_of_parts parts are =
      joined-parts cell (λ at. passages_in profile cell) (λ at first second ends. joined-passages first second ends) (λ at. refl) 0 parts are

-- What is said of passages

scalars-with_last : (v : Verdict) (ps : List (List Marked)) → flat_map scalars_of (with_last (ended v) ps) ≡ flat_map scalars_of ps
scalars-with_last v [] = refl
scalars-with_last v (p ∷ []) = ap (λ l. l ++ []) (scalars-ended v p)
scalars-with_last v (p ∷ q ∷ ps) = ap (λ l. scalars_of p ++ l) (scalars-with_last v (q ∷ ps))

pub of_passages-append : {X : Type 0} (say : ℕ → List Marked → List X) (at : ℕ) (ps qs : List (List Marked))
    → of_passages say at (ps ++ qs) ≡ of_passages say at ps ++ of_passages say (at + length (flat_map text_of ps)) qs
of_passages-append say at [] qs = ap (λ n. of_passages say n qs) (let same : at ≡ at + 0 = omega arith in same)
of_passages-append say at (ms ∷ ps) qs =
    let end = at + length (text_of ms) in
    let place : end + length (flat_map text_of ps) ≡ at + length (flat_map text_of (ms ∷ ps)) = omega (arith, length-append (text_of ms) (flat_map text_of ps)) in
    ap (λ l. say at ms ++ l) (of_passages-append say end ps qs ∙ ap (λ n. of_passages say end ps ++ of_passages say n qs) place)
    ∙ sym (append_assoc (say at ms) (of_passages say end ps) (of_passages say (at + length (flat_map text_of (ms ∷ ps))) qs))

of_passages-moved : {X : Type 0} (say : ℕ → List Marked → List X) (move : ℕ → X → X) (bytes : ℕ)
    → ((at : ℕ) (ms : List Marked) → say (bytes + at) ms ≡ map (move bytes) (say at ms)) → (at : ℕ) (ps : List (List Marked))
    → of_passages say (bytes + at) ps ≡ map (move bytes) (of_passages say at ps)
of_passages-moved say move bytes each at [] = refl
of_passages-moved say move bytes each at (ms ∷ ps) =
    let place : bytes + at + length (text_of ms) ≡ bytes + (at + length (text_of ms)) = omega arith in
    ap (λ l. l ++ of_passages say (bytes + at + length (text_of ms)) ps) (each at ms)
    ∙ ap (λ n. map (move bytes) (say at ms) ++ of_passages say n ps) place
    ∙ ap (λ l. map (move bytes) (say at ms) ++ l) (of_passages-moved say move bytes each (at + length (text_of ms)) ps)
    ∙ sym (map-append (move bytes) (say at ms) (of_passages say (at + length (text_of ms)) ps))

module _ (profile : Profile) (cell : ℕ → Cell) where
  bytes-in : (first : List ℕ) → length (flat_map text_of (passages_in profile cell true first)) ≡ length (encode_utf8_all first)
  bytes-in first =
      ap length (texts-joined (passages_in profile cell true first))
      ∙ ap (λ l. length (encode_utf8_all l)) (scalars-with_last (end_before_more cell first) (passages profile cell first) ∙ passages-scalars profile cell first)

  -- of a part, by the passages that it has within the text
  pub joins-passages : {X : Type 0} (say : ℕ → List Marked → List X) → JoinsTwo cell (λ at follows part. of_passages say at (passages_in profile cell follows part))
  joins-passages say at first second ends =
      ap (of_passages say at) (joined-passages profile cell first second ends)
      ∙ of_passages-append say at (passages_in profile cell true first) (passages profile cell second)
      ∙ ap (λ n. of_passages say at (passages_in profile cell true first) ++ of_passages say (at + n) (passages profile cell second)) (bytes-in first)

-- Segments

map-moved_segment : (a b : ℕ) (ss : List Segment) → map (moved_segment (a + b)) ss ≡ map (moved_segment a) (map (moved_segment b) ss)
map-moved_segment a b [] = refl
map-moved_segment a b (s ∷ ss) =
    let start : a + b + s.start ≡ a + (b + s.start) = omega arith in
    let end : a + b + s.end ≡ a + (b + s.end) = omega arith in
    ap (λ n. record { start = n; end = a + b + s.end; kind = s.kind; rule = s.rule } ∷ map (moved_segment (a + b)) ss) start
    ∙ ap (λ n. record { start = a + (b + s.start); end = n; kind = s.kind; rule = s.rule } ∷ map (moved_segment (a + b)) ss) end
    ∙ ap (λ l. moved_segment a (moved_segment b s) ∷ l) (map-moved_segment a b ss)

-- the last segment of some marks, by the rule after the last of them
record LastSegment (from at : ℕ) (m : Marked) (ms : List Marked) : Type 0 where
  front : List Segment
  start : ℕ
  end : ℕ
  is : (rule : Rule) → segments_from from at (ended (record { kind = Must; rule = rule }) (m ∷ ms)) ≡ front ++ segment_by start end (record { kind = Must; rule = rule }) ∷ []

last_segment : (from at : ℕ) (m : Marked) (ms : List Marked) → LastSegment from at m ms
last_segment from at m [] = record { front = []; start = from; end = at + length (encode_utf8 m.scalar); is = λ rule. refl }
last_segment from at m (n ∷ ms) =
    let end = at + length (encode_utf8 m.scalar) in
    let on = last_segment from end n ms in
    let new = last_segment end end n ms in
    record {
      front = cond (is_no m.after.kind) on.front (segment_by from end m.after ∷ new.front);
      start = cond (is_no m.after.kind) on.start new.start;
      end = cond (is_no m.after.kind) on.end new.end;
      is = λ rule. elim (is_no m.after.kind)
          as (λ k. cond k (segments_from from end (ended (record { kind = Must; rule = rule }) (n ∷ ms)))
          (segment_by from end m.after ∷ segments_from end end (ended (record { kind = Must; rule = rule }) (n ∷ ms)))
          ≡ cond k on.front (segment_by from end m.after ∷ new.front) ++ segment_by (cond k on.start new.start) (cond k on.end new.end) (record { kind = Must; rule = rule }) ∷ [])
          [ true ↦ on.is rule | false ↦ ap (λ l. segment_by from end m.after ∷ l) (new.is rule) ];
    }

-- marks after the last of which a line must end
record EndsBy (ms : List Marked) : Type 0 where
  rule : Rule
  is : ended (record { kind = Must; rule = rule }) ms ≡ ms

ends_by : (ms : List Marked) → EndsOnce ms → EndsBy ms
ends_by [] ends = absurd ends
ends_by (m ∷ []) ends =
    record { rule = m.after.rule; is = ap (λ k. record { scalar = m.scalar; after = record { kind = k; rule = m.after.rule } } ∷ []) (sym (is_must-kind m.after.kind ends)) }
ends_by (m ∷ n ∷ ms) ends = let e = ends_by (n ∷ ms) ends.1 in record { rule = e.rule; is = ap (λ l. m ∷ l) e.is }

abbrev segments_of_one : ℕ → List Marked → List Segment
segments_of_one start ms = map (moved_segment start) (segments_of ms)

-- the last segment of some passages, by the rule after the last of them
record LastOf (at : ℕ) (ps : List (List Marked)) : Type 0 where
  front : List Segment
  last : Segment
  is : segments_at at ps ≡ front ++ last ∷ []
  other : (rule : Rule) → segments_at at (with_last (ended (record { kind = Must; rule = rule })) ps) ≡ front ++ segment_by_rule rule last ∷ []

last_of : (at : ℕ) (p : List Marked) (ps : List (List Marked)) → AllByRecursion EndsOnce (p ∷ ps) → LastOf at (p ∷ ps)
unfolding segments_of
last_of at [] ps all = absurd all.0
last_of at (m ∷ ms) [] all =
    let last = last_segment 0 0 m ms in
    let e = ends_by (m ∷ ms) all.0 in
    let end : Rule → Segment = λ rule. segment_by last.start last.end (record { kind = Must; rule = rule }) in
    let said : (rule : Rule) → segments_of_one at (ended (record { kind = Must; rule = rule }) (m ∷ ms)) ≡ map (moved_segment at) last.front ++ moved_segment at (end rule) ∷ [] =
    λ rule. ap (map (moved_segment at)) (last.is rule) ∙ map-append (moved_segment at) last.front (end rule ∷ []) in
    record {
      front = map (moved_segment at) last.front;
      last = moved_segment at (end e.rule);
      is = append-nil (segments_of_one at (m ∷ ms)) ∙ ap (segments_of_one at) (sym e.is) ∙ said e.rule;
      other = λ rule. append-nil (segments_of_one at (ended (record { kind = Must; rule = rule }) (m ∷ ms))) ∙ said rule;
    }
last_of at (m ∷ ms) (q ∷ qs) all =
    let rest = last_of (at + length (text_of (m ∷ ms))) q qs all.1 in
    record {
      front = segments_of_one at (m ∷ ms) ++ rest.front;
      last = rest.last;
      is = ap (λ l. segments_of_one at (m ∷ ms) ++ l) rest.is ∙ sym (append_assoc (segments_of_one at (m ∷ ms)) rest.front (rest.last ∷ []));
      other = λ rule. ap (λ l. segments_of_one at (m ∷ ms) ++ l) (rest.other rule)
          ∙ sym (append_assoc (segments_of_one at (m ∷ ms)) rest.front (segment_by_rule rule rest.last ∷ []));
    }

segments-with_last : (at : ℕ) (rule : Rule) (ps : List (List Marked)) → AllByRecursion EndsOnce ps
    → segments_at at (with_last (ended (record { kind = Must; rule = rule })) ps) ≡ with_last (segment_by_rule rule) (segments_at at ps)
segments-with_last at rule [] all = refl
segments-with_last at rule (p ∷ ps) all =
    let l = last_of at p ps all in
    l.other rule ∙ sym (ap (with_last (segment_by_rule rule)) l.is ∙ with_last-snoc (segment_by_rule rule) l.front l.last)

map-moved_segment_none : (ss : List Segment) → map (moved_segment 0) ss ≡ ss
map-moved_segment_none [] = refl
map-moved_segment_none (s ∷ ss) =
    let start : 0 + s.start ≡ s.start = omega arith in
    let end : 0 + s.end ≡ s.end = omega arith in
    ap (λ n. record { start = n; end = 0 + s.end; kind = s.kind; rule = s.rule } ∷ map (moved_segment 0) ss) start
    ∙ ap (λ n. record { start = s.start; end = n; kind = s.kind; rule = s.rule } ∷ map (moved_segment 0) ss) end
    ∙ ap (λ l. s ∷ l) (map-moved_segment_none ss)

module _ (profile : Profile) (cell : ℕ → Cell) where
  segments-before : (part : List ℕ) → segments_at 0 (passages_in profile cell true part) ≡ segments_before profile cell true part
  unfolding passages
  segments-before [] = refl
  segments-before (c ∷ cs) =
      ap (λ v. segments_at 0 (with_last (ended v) (passages profile cell (c ∷ cs)))) (end_before_more-must cell c cs)
      ∙ segments-with_last 0 (end_before_more cell (c ∷ cs)).rule (passages profile cell (c ∷ cs)) (passages-end profile cell (c ∷ cs))

  pub joined-segments : (first second : List ℕ) → must_end_between cell first second ≡ true
      → segments_at 0 (passages profile cell (first ++ second))
      ≡ segments_before profile cell true first ++ segments_in profile cell (length (encode_utf8_all first)) false second
  joined-segments first second ends =
      let bytes = length (encode_utf8_all first) in
      let place : 0 + bytes ≡ bytes + 0 = omega arith in
      joins-passages profile cell segments_of_one 0 first second ends
      ∙ ap (λ l. l ++ segments_at (0 + bytes) (passages profile cell second)) (segments-before first)
      ∙ ap (λ n. segments_before profile cell true first ++ segments_at n (passages profile cell second)) place
      ∙ ap (λ l. segments_before profile cell true first ++ l)
      (of_passages-moved segments_of_one moved_segment bytes (λ at ms. map-moved_segment bytes at (segments_of ms)) 0 (passages profile cell second))

  joins-segments : JoinsTwo cell (segments_in profile cell)
  joins-segments at first second ends =
      let bytes = length (encode_utf8_all first) in
      ap (map (moved_segment at)) (joined-segments first second ends)
      ∙ map-append (moved_segment at) (segments_before profile cell true first) (segments_in profile cell bytes false second)
      ∙ ap (λ l. segments_in profile cell at true first ++ l) (sym (map-moved_segment at bytes (segments_at 0 (passages profile cell second))))

  pub joined-segments_of_parts : (parts : List (List ℕ)) → AreParts cell parts
      → segments_at 0 (passages profile cell (flat_map (λ part. part) parts)) ≡ of_parts (segments_in profile cell) 0 parts
  unfolding passages
  joined-segments_of_parts parts are =
      sym (map-moved_segment_none (segments_at 0 (passages profile cell (flat_map (λ part. part) parts))))
      ∙ joined-parts cell (segments_in profile cell) joins-segments (λ at. refl) 0 parts are

-- Pieces

-- what looks at no verdict after the last of a passage
pub of_passages-with_last : {X : Type 0} (say : ℕ → List Marked → List X) (v : Verdict)
    → ((at : ℕ) (ms : List Marked) → EndsOnce ms → say at (ended v ms) ≡ say at ms) → (at : ℕ) (ps : List (List Marked)) → AllByRecursion EndsOnce ps
    → of_passages say at (with_last (ended v) ps) ≡ of_passages say at ps
of_passages-with_last say v same at [] all = refl
of_passages-with_last say v same at (p ∷ []) all = ap (λ l. l ++ []) (same at p all.0)
of_passages-with_last say v same at (p ∷ q ∷ ps) all =
    ap (λ l. say at p ++ l) (of_passages-with_last say v same (at + length (text_of p)) (q ∷ ps) all.1)

map-moved_piece : (a b : ℕ) (ps : List Piece) → map (moved_piece (a + b)) ps ≡ map (moved_piece a) (map (moved_piece b) ps)
map-moved_piece a b [] = refl
map-moved_piece a b (p ∷ ps) =
    let start : a + b + p.start ≡ a + (b + p.start) = omega arith in
    let end : a + b + p.end ≡ a + (b + p.end) = omega arith in
    ap (λ n. record { start = n; end = a + b + p.end; word = p.word } ∷ map (moved_piece (a + b)) ps) start
    ∙ ap (λ n. record { start = a + (b + p.start); end = n; word = p.word } ∷ map (moved_piece (a + b)) ps) end
    ∙ ap (λ l. moved_piece a (moved_piece b p) ∷ l) (map-moved_piece a b ps)

map-moved_piece_none : (ps : List Piece) → map (moved_piece 0) ps ≡ ps
map-moved_piece_none [] = refl
map-moved_piece_none (p ∷ ps) =
    let start : 0 + p.start ≡ p.start = omega arith in
    let end : 0 + p.end ≡ p.end = omega arith in
    ap (λ n. record { start = n; end = 0 + p.end; word = p.word } ∷ map (moved_piece 0) ps) start
    ∙ ap (λ n. record { start = p.start; end = n; word = p.word } ∷ map (moved_piece 0) ps) end
    ∙ ap (λ l. p ∷ l) (map-moved_piece_none ps)

module _ (profile : Profile) (cell : ℕ → Cell) where
  abbrev pieces_of_one : ℕ → List Marked → List Piece
  pieces_of_one start ms = map (moved_piece start) (pieces_of cell (text_of ms))

  pieces-before : (part : List ℕ) → pieces_at cell 0 (passages_in profile cell true part) ≡ pieces_at cell 0 (passages profile cell part)
  pieces-before part =
      of_passages-with_last pieces_of_one (end_before_more cell part)
      (λ at ms ends. ap (λ cs. map (moved_piece at) (pieces_of cell (encode_utf8_all cs))) (scalars-ended (end_before_more cell part) ms))
      0 (passages profile cell part) (passages-end profile cell part)

  pub joined-pieces : (first second : List ℕ) → must_end_between cell first second ≡ true
      → pieces_at cell 0 (passages profile cell (first ++ second))
      ≡ pieces_at cell 0 (passages profile cell first) ++ pieces_in profile cell (length (encode_utf8_all first)) false second
  joined-pieces first second ends =
      let bytes = length (encode_utf8_all first) in
      let place : 0 + bytes ≡ bytes + 0 = omega arith in
      joins-passages profile cell pieces_of_one 0 first second ends
      ∙ ap (λ l. l ++ pieces_at cell (0 + bytes) (passages profile cell second)) (pieces-before first)
      ∙ ap (λ n. pieces_at cell 0 (passages profile cell first) ++ pieces_at cell n (passages profile cell second)) place
      ∙ ap (λ l. pieces_at cell 0 (passages profile cell first) ++ l)
      (of_passages-moved pieces_of_one moved_piece bytes (λ at ms. map-moved_piece bytes at (pieces_of cell (text_of ms))) 0 (passages profile cell second))

  joins-pieces : JoinsTwo cell (pieces_in profile cell)
  joins-pieces at first second ends =
      let bytes = length (encode_utf8_all first) in
      ap (map (moved_piece at)) (joined-pieces first second ends)
      ∙ map-append (moved_piece at) (pieces_at cell 0 (passages profile cell first)) (pieces_in profile cell bytes false second)
      ∙ ap (λ l. pieces_in profile cell at true first ++ l) (sym (map-moved_piece at bytes (pieces_at cell 0 (passages profile cell second))))

  pub joined-pieces_of_parts : (parts : List (List ℕ)) → AreParts cell parts
      → pieces_at cell 0 (passages profile cell (flat_map (λ part. part) parts)) ≡ of_parts (pieces_in profile cell) 0 parts
  unfolding passages
  joined-pieces_of_parts parts are =
      sym (map-moved_piece_none (pieces_at cell 0 (passages profile cell (flat_map (λ part. part) parts))))
      ∙ joined-parts cell (pieces_in profile cell) joins-pieces (λ at. refl) 0 parts are

-- what is said of two texts, and of many
pub ruleset of_two = (joined-passages, joined-segments, joined-pieces)

pub ruleset of_many = (joined-passages_of_parts, joined-segments_of_parts, joined-pieces_of_parts)
