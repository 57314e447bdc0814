-- The breaks of the parts of a text of any bytes, joined.
use Rattle.std.proofs.Common.{◌≡◌, ℕ, ◌+◌, ◌-◌, ◌<◌, ◌≤◌, Bool, true, false, cond, ◌&&◌, not, List, [], ◌∷◌, ◌++◌, length, map, take, drop, refl, sym, ap, ap₂, ◌∙◌, append-nil, arith, length-append}
use Rattle.std.specs.List.{flat_map}
use Rattle.std.proofs.lemmas.Bool.{false≢true}
use Rattle.std.proofs.lemmas.List.{drop-drop, drop_at, length-map, map-append, take_at}
use Rattle.std.proofs.lemmas.List.Elements.{filter-append}
use Rattle.bstr.specs.Utf8.{Decoded, or_replacement, pieces}
use Rattle.bstr.proofs.lemmas.PieceLemmas.{pieces-nil, sizes}
use Rattle.lbk_rules.specs.declared.Break.{Break}
use Rattle.lbk_rules.specs.declared.Cell.{Cell}
use Rattle.lbk_rules.specs.declared.Verdict.{Verdict}
use Rattle.lbk_values.specs.declared.profile.Profile.{Profile}
use Rattle.lbk_rules.specs.Breaks.{break_by, is_no}
use Rattle.lbk_rules.specs.Ends.{end_after, end_of_text, ends_line}
use Rattle.lbk_rules.specs.Joins.{end_before_more, marks_in, moved}
use Rattle.lbk_rules.specs.Marks.{Marked, ended, marks, marks_behind}
use Rattle.lbk_rules.specs.Joins.{must_end_between}
use Rattle.lbk_rules.specs.Verdict.{verdict_between_in}
use Rattle.lbk_rules.proofs.EndLemmas.{start_of_text}
use Rattle.lbk_rules.proofs.JoinLemmas.{end_before_more-must, joined-marks, map-moved, map-moved-none}
use Rattle.lbk_rules.proofs.MarkLemmas.{last-marks}
use Rattle.lbk_bytes.specs.Bytes.{breaks_after, breaks_of_bytes, breaks_of_part, of_part, open_end}
use Rattle.lbk_units.specs.Positions.{breaks_among, positions_after, positions_of_part_of, positions_of_pieces}
use Rattle.lbk_units.specs.Units.{breaks_of_part_of, breaks_of_pieces, units_of}
use Rattle.lbk_units.proofs.EncodingLemmas.{after-among, among-moved, breaks-among}
use Rattle.lbk_units.proofs.UnitLemmas.{units-sizes}
use Rattle.lbk_streams.specs.Cuts.{AreByteParts, EndsBefore, EndsIn, JoinsAt, JoinsIn, breaks_of_parts}
use Rattle.lbk_streams.proofs.PieceStartLemmas.{pieces-cut, sizes-append, sizes-front, sizes-pieces}

abbrev is_break : Break → Bool
is_break position = not (is_no position.kind)

-- positions after two runs of pieces
after-joined : (at : ℕ) (ps qs : List Decoded) (ms ns : List Marked) → length ps ≡ length ms
    → positions_after at (ps ++ qs) (ms ++ ns) ≡ positions_after at ps ms ++ positions_after (at + sizes ps) qs ns
unfolding sizes
after-joined at [] qs [] ns same = ap (λ n. positions_after n qs ns) (let place : at ≡ at + 0 = omega arith in place)
after-joined at [] qs (m ∷ ms) ns same = absurd (omega arith)
after-joined at (p ∷ ps) qs [] ns same = absurd (omega arith)
after-joined at (p ∷ ps) qs (m ∷ ms) ns same =
    let end = at + p.size in
    let place : end + sizes ps ≡ at + (p.size + sizes ps) = omega arith in
    ap (λ l. break_by end m.after ∷ l)
    (after-joined end ps qs ms ns (omega arith) ∙ ap (λ n. positions_after end ps ms ++ positions_after n qs ns) place)

after-moved : (bytes at : ℕ) (ps : List Decoded) (ms : List Marked) → positions_after (bytes + at) ps ms ≡ map (moved bytes) (positions_after at ps ms)
after-moved bytes at [] ms = refl
after-moved bytes at (p ∷ ps) [] = refl
after-moved bytes at (p ∷ ps) (m ∷ ms) =
    let place : bytes + at + p.size ≡ bytes + (at + p.size) = omega arith in
    ap (λ n. break_by n m.after ∷ positions_after n ps ms) place
    ∙ ap (λ l. break_by (bytes + (at + p.size)) m.after ∷ l) (after-moved bytes (at + p.size) ps ms)

-- and with another verdict after the last
after-ended : (v : Verdict) (at : ℕ) (p : Decoded) (ps : List Decoded) (m : Marked) (ms : List Marked) → length ps ≡ length ms
    → positions_after at (p ∷ ps) (ended v (m ∷ ms))
    ≡ take (length ps) (positions_after at (p ∷ ps) (m ∷ ms)) ++ break_by (at + sizes (p ∷ ps)) v ∷ []
unfolding sizes
after-ended v at p [] m [] same = ap (λ n. break_by n v ∷ []) (let place : at + p.size ≡ at + (p.size + 0) = omega arith in place)
after-ended v at p [] m (n ∷ ms) same = absurd (omega arith)
after-ended v at p (q ∷ ps) m [] same = absurd (omega arith)
after-ended v at p (q ∷ ps) m (n ∷ ms) same =
    let end = at + p.size in
    let place : end + sizes (q ∷ ps) ≡ at + (p.size + sizes (q ∷ ps)) = omega arith in
    ap (λ l. break_by end m.after ∷ l)
    (after-ended v end q ps n ms (omega arith)
    ∙ ap (λ k. take (length ps) (positions_after end (q ∷ ps) (n ∷ ms)) ++ break_by k v ∷ []) place)

-- Parts

length-marks : (profile : Profile) (cell : ℕ → Cell) (before cs : List ℕ) → length (marks_behind profile cell before cs) ≡ length cs
length-marks profile cell before [] = refl
length-marks profile cell before (c ∷ cs) = let rest = length-marks profile cell (before ++ c ∷ []) cs in omega arith

length-ended : (v : Verdict) (ms : List Marked) → length (ended v ms) ≡ length ms
length-ended v [] = refl
length-ended v (m ∷ []) = refl
length-ended v (m ∷ n ∷ ms) = let rest = length-ended v (n ∷ ms) in omega arith

length-rest : {A B : Type 0} (x : A) (xs : List A) (y : B) (ys : List B) → length (x ∷ xs) ≡ length (y ∷ ys) → length xs ≡ length ys
length-rest x xs y ys same = omega arith

take-front : {A : Type 0} (xs : List A) (x : A) → take (length (xs ++ x ∷ []) - 1) (xs ++ x ∷ []) ≡ xs
take-front xs x = take_at xs (x ∷ []) (length (xs ++ x ∷ []) - 1) (omega (arith, length-append xs (x ∷ [])))

left-true : (a b : Bool) → (a && b) ≡ true → a ≡ true
left-true true b both = refl
left-true false b both = both

abbrev scalars : List Decoded → List ℕ
scalars ps = map (λ p. or_replacement p.char) ps

module _ (profile : Profile) (cell : ℕ → Cell) where
  length-marks_of : (ps : List Decoded) → length ps ≡ length (marks profile cell (scalars ps))
  length-marks_of ps = sym (length-marks profile cell [] (scalars ps) ∙ length-map ps (λ (p : Decoded). or_replacement p.char))

  -- what comes at the end of a part, where a line must end before what follows
  open-must : (c : ℕ) (cs second : List ℕ) (at : ℕ) → must_end_between cell (c ∷ cs) second ≡ true
      → open_end profile cell (c ∷ cs) at ≡ break_by at (end_before_more cell (c ∷ cs)) ∷ []
  open-must c [] [] at must = absurd (false≢true must)
  open-must c [] (d ∷ ds) at must =
      ap (λ b. cond b (break_by at (end_after (cell c).class) ∷ []) []) (left-true (ends_line (cell c).class) _ must)
  open-must c (e ∷ es) second at must = open-must e es second at must

  -- the positions of some pieces but for the last one, whatever the verdict there
  abbrev start_of : List Decoded → Break
  start_of ps = break_by 0 (verdict_between_in profile [] (map cell (scalars ps)))

  abbrev front_of : Decoded → List Decoded → List Break
  front_of p ps = start_of (p ∷ ps) ∷ take (length ps) (positions_after 0 (p ∷ ps) (marks profile cell (scalars (p ∷ ps))))

  ends-by : (v : Verdict) (p : Decoded) (ps : List Decoded)
      → start_of (p ∷ ps) ∷ positions_after 0 (p ∷ ps) (ended v (marks profile cell (scalars (p ∷ ps))))
      ≡ front_of p ps ++ break_by (0 + sizes (p ∷ ps)) v ∷ []
  ends-by v p ps =
      let c = or_replacement p.char in
      let m : Marked = record { scalar = c; after = verdict_between_in profile (map cell (c ∷ [])) (map cell (scalars ps)) } in
      let ms = marks_behind profile cell (c ∷ []) (scalars ps) in
      ap (λ l. start_of (p ∷ ps) ∷ l) (after-ended v 0 p ps m ms (length-rest p ps m ms (length-marks_of (p ∷ ps))))

  whole-is : (p : Decoded) (ps : List Decoded)
      → positions_of_pieces profile cell (p ∷ ps) ≡ front_of p ps ++ break_by (0 + sizes (p ∷ ps)) end_of_text ∷ []
  whole-is p ps =
      ap (λ ms. start_of (p ∷ ps) ∷ positions_after 0 (p ∷ ps) ms) (last-marks profile cell [] (or_replacement p.char) (scalars ps))
      ∙ ends-by end_of_text p ps

  abbrev but_last : List Decoded → List Break
  but_last ps = take (length (positions_of_pieces profile cell ps) - 1) (positions_of_pieces profile cell ps)

  but_last-is : (p : Decoded) (ps : List Decoded) → but_last (p ∷ ps) ≡ front_of p ps
  but_last-is p ps =
      ap (λ l. take (length l - 1) l) (whole-is p ps) ∙ take-front (front_of p ps) (break_by (0 + sizes (p ∷ ps)) end_of_text)

  -- the positions of the first of two parts, as they are in the text, and its breaks
  positions-before : (ps : List Decoded) (second : List ℕ) (at : ℕ) → must_end_between cell (scalars ps) second ≡ true → at ≡ sizes ps
      → start_of ps ∷ positions_after 0 ps (marks_in profile cell true (scalars ps)) ≡ but_last ps ++ open_end profile cell (scalars ps) at
  positions-before [] second at must size = absurd (false≢true must)
  positions-before (p ∷ ps) second at must size =
      let c = or_replacement p.char in
      let cs = scalars ps in
      let verdict = end_before_more cell (c ∷ cs) in
      let place : 0 + sizes (p ∷ ps) ≡ at = omega arith in
      ends-by verdict p ps
      ∙ ap (λ k. front_of p ps ++ break_by k verdict ∷ []) place
      ∙ sym (ap₂ (λ xs ys. xs ++ ys) (but_last-is p ps) (open-must c cs second at must))

  breaks-before : (ps : List Decoded) (second : List ℕ) (at : ℕ) → must_end_between cell (scalars ps) second ≡ true
      → breaks_among (but_last ps ++ open_end profile cell (scalars ps) at)
      ≡ take (length (breaks_of_pieces profile cell ps) - 1) (breaks_of_pieces profile cell ps) ++ open_end profile cell (scalars ps) at
  breaks-before [] second at must = absurd (false≢true must)
  breaks-before (p ∷ ps) second at must =
      let c = or_replacement p.char in
      let cs = scalars ps in
      let front = breaks_among (front_of p ps) in
      let last = break_by (0 + sizes (p ∷ ps)) end_of_text in
      let all : breaks_of_pieces profile cell (p ∷ ps) ≡ front ++ last ∷ [] =
      sym (breaks-among profile cell (p ∷ ps)) ∙ ap breaks_among (whole-is p ps) ∙ filter-append is_break (front_of p ps) (last ∷ []) in
      let end : breaks_among (open_end profile cell (c ∷ cs) at) ≡ open_end profile cell (c ∷ cs) at =
      ap breaks_among (open-must c cs second at must)
      ∙ ap (λ (v : Verdict). breaks_among (break_by at v ∷ [])) (end_before_more-must cell c cs)
      ∙ ap (λ (v : Verdict). break_by at v ∷ []) (sym (end_before_more-must cell c cs))
      ∙ sym (open-must c cs second at must) in
      filter-append is_break (but_last (p ∷ ps)) (open_end profile cell (c ∷ cs) at)
      ∙ ap₂ (λ xs ys. xs ++ ys)
      (ap breaks_among (but_last-is p ps) ∙ sym (take-front front last) ∙ ap (λ l. take (length l - 1) l) (sym all)) end

  module _ (pieces_of : List ℕ → List Decoded) where
    positions-at : (text : List ℕ) (place : ℕ) → sizes (pieces_of (take place text)) ≡ place → EndsIn pieces_of cell text place
        → positions_of_pieces profile cell (pieces_of text)
        ≡ positions_of_part_of true profile cell (pieces_of (take place text))
        ++ map (moved place) (drop 1 (positions_of_pieces profile cell (pieces_of (drop place text))))
    positions-at text place few ends =
        let before = pieces_of (take place text) in
        let behind = pieces_of (drop place text) in
        let at : 0 + sizes before ≡ place + 0 = omega arith in
        let long : length before ≡ length (marks_in profile cell true (scalars before)) =
        length-marks_of before ∙ sym (length-ended (end_before_more cell (scalars before)) (marks profile cell (scalars before))) in
        let start = start_of before in
        let all = scalars (before ++ behind) in
        ap (positions_of_pieces profile cell) ends.0
        ∙ ap (λ (v : Verdict). break_by 0 v ∷ positions_after 0 (before ++ behind) (marks profile cell all))
        (start_of_text profile (map cell all) ∙ sym (start_of_text profile (map cell (scalars before))))
        ∙ ap (λ cs. start ∷ positions_after 0 (before ++ behind) (marks profile cell cs)) (map-append (λ (p : Decoded). or_replacement p.char) before behind)
        ∙ ap (λ ms. start ∷ positions_after 0 (before ++ behind) ms) (joined-marks profile cell (scalars before) (scalars behind) ends.1)
        ∙ ap (λ l. start ∷ l) (after-joined 0 before behind (marks_in profile cell true (scalars before)) (marks profile cell (scalars behind)) long)
        ∙ ap (λ l. l ++ positions_after (0 + sizes before) behind (marks profile cell (scalars behind)))
        (positions-before before (scalars behind) (units_of before) ends.1 (units-sizes before))
        ∙ ap (λ n. positions_of_part_of true profile cell before ++ positions_after n behind (marks profile cell (scalars behind))) at
        ∙ ap (λ l. positions_of_part_of true profile cell before ++ l) (after-moved place 0 behind (marks profile cell (scalars behind)))

    -- where a line must end at a piece's start, the breaks and the positions before and behind it are those of two texts
    pub joins-in : (text : List ℕ) (place : ℕ) → sizes (pieces_of (take place text)) ≡ place → EndsIn pieces_of cell text place → JoinsIn pieces_of profile cell text place
    joins-in text place few ends =
        let before = pieces_of (take place text) in
        let behind = pieces_of (drop place text) in
        let after = positions_after 0 behind (marks profile cell (scalars behind)) in
        let positions = positions-at text place few ends in
        record {
          breaks = sym (breaks-among profile cell (pieces_of text))
              ∙ ap breaks_among positions
              ∙ filter-append is_break (positions_of_part_of true profile cell before) (map (moved place) after)
              ∙ ap₂ (λ xs ys. xs ++ ys) (breaks-before before (scalars behind) (units_of before) ends.1)
              (among-moved (moved place) (λ one. refl) after ∙ ap (map (moved place)) (after-among 0 behind (marks profile cell (scalars behind))));
          positions = positions;
        }

  -- of bytes
  pub joins-at : (text : List ℕ) (place : ℕ) → place ≤ length text → EndsBefore cell text place → JoinsAt profile cell text place
  joins-at text place within ends = joins-in pieces text place (sizes-front text place within) ends

  part-bytes : (part : List ℕ) → breaks_of_part_of true profile cell (pieces part) ≡ breaks_of_part true profile cell part
  part-bytes part =
      ap (λ n. of_part true (breaks_of_bytes profile cell part) (open_end profile cell (scalars (pieces part)) n)) (units-sizes (pieces part) ∙ sizes-pieces part)

  no-breaks : breaks_of_bytes profile cell [] ≡ []
  no-breaks = ap (λ ps. breaks_after 0 ps (marks profile cell (scalars ps))) pieces-nil

  parts-from : (at : ℕ) (parts : List (List ℕ)) → AreByteParts cell parts
      → map (moved at) (breaks_of_bytes profile cell (flat_map (λ part. part) parts)) ≡ breaks_of_parts profile cell at parts
  parts-from at [] are = ap (map (moved at)) no-breaks
  parts-from at (part ∷ []) are = ap (λ text. map (moved at) (breaks_of_bytes profile cell text)) (append-nil part)
  parts-from at (part ∷ next ∷ parts) are =
      let rest = flat_map (λ p. p) (next ∷ parts) in
      let n = length part in
      let within : n ≤ length (part ++ rest) = omega (arith, length-append part rest) in
      let front = take n (part ++ rest) in
      let behind = map (moved n) (breaks_of_bytes profile cell (drop n (part ++ rest))) in
      ap (map (moved at)) ((joins-at (part ++ rest) n within are.0).breaks ∙ ap (λ l. l ++ behind) (part-bytes front))
      ∙ map-append (moved at) (breaks_of_part true profile cell (take n (part ++ rest))) (map (moved n) (breaks_of_bytes profile cell (drop n (part ++ rest))))
      ∙ ap₂ (λ first second. map (moved at) (breaks_of_part true profile cell first) ++ map (moved at) (map (moved n) (breaks_of_bytes profile cell second)))
      (take_at part rest n refl) (drop_at part rest n refl)
      ∙ ap (λ l. map (moved at) (breaks_of_part true profile cell part) ++ l)
      (map-moved at n (breaks_of_bytes profile cell rest) ∙ parts-from (at + n) (next ∷ parts) are.1)

  -- the breaks of any number of parts
  pub joins-parts : (parts : List (List ℕ)) → AreByteParts cell parts
      → breaks_of_bytes profile cell (flat_map (λ part. part) parts) ≡ breaks_of_parts profile cell 0 parts
  joins-parts parts are = sym (map-moved-none (breaks_of_bytes profile cell (flat_map (λ part. part) parts))) ∙ parts-from 0 parts are

-- A cut of a text is one of what follows an earlier cut

-- what two fronts of a list have between them
record Between (xs zs ys ws : List Decoded) : Type 0 where
  middle : List Decoded
  longer : ys ≡ xs ++ middle
  behind : zs ≡ middle ++ ws

between : (xs zs ys ws : List Decoded) → xs ++ zs ≡ ys ++ ws → sizes xs < sizes ys → Between xs zs ys ws
unfolding sizes
between [] zs ys ws is less = record { middle = ys; longer = refl; behind = is }
between (x ∷ xs) zs [] ws is less = absurd (omega arith)
between (x ∷ xs) zs (y ∷ ys) ws is less =
    let first : x ≡ y = cc in
    let rest : xs ++ zs ≡ ys ++ ws = cc in
    let size = ap (λ (p : Decoded). p.size) first in
    let b = between xs zs ys ws rest (omega arith) in
    record { middle = b.middle; longer = ap₂ (λ p ps. p ∷ ps) (sym first) b.longer; behind = b.behind }

-- only the last scalar of the first tells whether a line must end between two texts
must_end_between-last_of : (cell : ℕ → Cell) (front : List ℕ) (c : ℕ) (cs second : List ℕ)
    → must_end_between cell (front ++ c ∷ cs) second ≡ must_end_between cell (c ∷ cs) second
must_end_between-last_of cell [] c cs second = refl
must_end_between-last_of cell (a ∷ []) c cs second = refl
must_end_between-last_of cell (a ∷ b ∷ front) c cs second = must_end_between-last_of cell (b ∷ front) c cs second

pub must_end_between-later : (cell : ℕ → Cell) (front rest second : List ℕ) → 0 < length rest
    → must_end_between cell (front ++ rest) second ≡ must_end_between cell rest second
must_end_between-later cell front [] second some = absurd (omega arith)
must_end_between-later cell front (c ∷ cs) second some = must_end_between-last_of cell front c cs second

some-scalars : (ps : List Decoded) → 0 < sizes ps → 0 < length (scalars ps)
unfolding sizes
some-scalars [] some = absurd (omega arith)
some-scalars (p ∷ ps) some = omega arith

pub ends-later : (cell : ℕ → Cell) (text : List ℕ) (first second : ℕ) → first < second → second ≤ length text
    → EndsBefore cell text first → EndsBefore cell text second → EndsBefore cell (drop first text) (second - first)
ends-later cell text first second less within one other =
    let rest = drop first text in
    let n = second - first in
    let few = sizes-front text first (omega arith) in
    let more = sizes-front text second within in
    let b = between (pieces (take first text)) (pieces rest) (pieces (take second text)) (pieces (drop second text)) (sym one.0 ∙ other.0) (omega arith) in
    let size : sizes b.middle ≡ n =
    let sum = ap sizes b.longer ∙ sizes-append (pieces (take first text)) b.middle in omega arith in
    let place : first + n ≡ second = omega arith in
    let behind : drop n rest ≡ drop second text = drop-drop n first text ∙ ap (λ k. drop k text) place in
    let front : pieces (take n rest) ≡ b.middle = ap (λ k. pieces (take k rest)) (sym size) ∙ pieces-cut b.middle (pieces (drop second text)) rest b.behind in
    let some : 0 < sizes b.middle = omega arith in (
      b.behind ∙ ap₂ (λ x y. x ++ y) (sym front) (ap pieces (sym behind)),
      ap₂ (λ x y. must_end_between cell (scalars x) (scalars (pieces y))) front behind
          ∙ sym (must_end_between-later cell (scalars (pieces (take first text))) (scalars b.middle) (scalars (pieces (drop second text))) (some-scalars b.middle some))
          ∙ ap (λ cs. must_end_between cell cs (scalars (pieces (drop second text)))) (sym (map-append (λ (p : Decoded). or_replacement p.char) (pieces (take first text)) b.middle))
          ∙ ap (λ ps. must_end_between cell (scalars ps) (scalars (pieces (drop second text)))) (sym b.longer)
          ∙ other.1,
    )
