-- The breaks of a text up to the first one where a line must end, before the end of the text.
use Rattle.std.proofs.Common.{◌≡◌, ℕ, ◌+◌, ◌<◌, Bool, true, false, cond, All, List, [], ◌∷◌, ◌++◌, map, length, take, drop, None, Some, refl, sym, ap, ap₂, subst, ◌∙◌, append_assoc, append-nil, arith, length-append, not}
use Rattle.std.specs.Char.{encode_utf8}
use Rattle.std.specs.Str.{IsCharBoundary, IsUtf8, chars, encode_utf8_all}
use Rattle.std.proofs.lemmas.Bool.{false≢true}
use Rattle.std.proofs.lemmas.List.{append_cancel_left, drop_at, take_at}
use Rattle.std.proofs.lemmas.List.Elements.{All-head, All-tail}
use Rattle.std.proofs.lemmas.Simd.{map-map}
use Rattle.std.proofs.lemmas.Str.{IsCharBoundary-from_drop, chars-encodes, encodes-append, encodes-chars, scalars-chars}
use Rattle.std.proofs.Math.Path.{fun_ext}
use Rattle.std.proofs.Math.Utf8.{scalars}
use Rattle.lbk_rules.specs.declared.Break.{Break}
use Rattle.lbk_rules.specs.declared.Cell.{Cell}
use Rattle.lbk_rules.specs.declared.Verdict.{Verdict}
use Rattle.lbk_values.specs.declared.profile.Profile.{Profile}
use Rattle.lbk_rules.specs.Breaks.{break_by, breaks, breaks_from, is_no}
use Rattle.lbk_rules.specs.Ends.{end_after, ends_between}
use Rattle.lbk_rules.specs.Joins.{moved}
use Rattle.lbk_rules.specs.Marks.{Marked, ended, marks, marks_behind, text_of}
use Rattle.lbk_rules.specs.Verdict.{verdict_between_in}
use Rattle.lbk_rules.proofs.JoinLemmas.{breaks-joined}
use Rattle.lbk_rules.proofs.MarkLemmas.{ends-marks, last_in, marks-joined, marks_between, must_after_all, must_here, scalars-behind, scalars-ended}
use Rattle.lbk_passage.specs.Cuts.{cut_at}
use Rattle.lbk_passage.specs.Laws.{break_at}
use Rattle.lbk_passage.specs.Passages.{is_must}
use Rattle.lbk_passage.specs.Segments.{segments_of}
use Rattle.lbk_passage.specs.Stays.{end_before, ends_at, last_class, stays}
use Rattle.lbk_passage.proofs.Booleans.{and-true}
use Rattle.lbk_passage.proofs.Marking.{last_class-in, no_must_here}
use Rattle.lbk_passage.proofs.SegmentLemmas.{breaks-below, segments-cut}
use Rattle.lbk_passage.proofs.Taking.{IsUtf8-scalars, scalars-left, scalars-right}
use Rattle.lbk_passage.proofs.Together.{segment_breaks-are}

-- a line must end at none of these breaks
abbrev pub NoneMust : List Break → Type 0
NoneMust bs = All (λ x. is_must x.kind ≡ false) bs

-- the breaks of some marks that begin at a byte are those of the same marks alone, moved
breaks-moved_from : (bytes : ℕ) (ms : List Marked) → breaks_from bytes ms ≡ map (moved bytes) (breaks_from 0 ms)
breaks-moved_from bytes ms =
    let alone : (n : ℕ) → map (break_at n) (segments_of ms) ≡ breaks_from n ms =
    λ n. sym (append-nil (map (break_at n) (segments_of ms))) ∙ segment_breaks-are n (ms ∷ []) ∙ ap (breaks_from n) (append-nil ms) in
    let place : (n : ℕ) → bytes + n ≡ bytes + (0 + n) = λ n. omega arith in
    let same : break_at bytes ≡ (λ s. moved bytes (break_at 0 s)) =
    fun_ext (λ s. ap (λ n. record { at = n; kind = s.kind; rule = s.rule }) (place s.end)) in
    sym (alone bytes) ∙ ap (λ f. map f (segments_of ms)) same ∙ sym (map-map (moved bytes) (break_at 0) (segments_of ms)) ∙ ap (map (moved bytes)) (alone 0)

-- where the first of some breaks is one where a line must end, it is the first such break
must_first : (found : Break) (bs front : List Break) (b : Break) (rest : List Break) → is_must found.kind ≡ true
    → found ∷ bs ≡ front ++ b ∷ rest → NoneMust front → (front ≡ []) × (b ≡ found)
must_first found bs [] b rest must are quiet = let same : b ≡ found = cc in (refl, same)
must_first found bs (f ∷ fs) b rest must are quiet =
    let same : f ≡ found = cc in
    absurd (false≢true (sym (All-head (λ x. is_must x.kind ≡ false) f fs quiet) ∙ ap (λ x. is_must x.kind) same ∙ must))

-- a first break where none must is followed by those up to the first such break
record Follows (found : Break) (bs front : List Break) (b : Break) (rest : List Break) : Type 0 where
  others : List Break
  front_is : front ≡ found ∷ others
  are : bs ≡ others ++ b ∷ rest
  quiet : NoneMust others

may_first : (found : Break) (bs front : List Break) (b : Break) (rest : List Break) → is_must found.kind ≡ false → is_must b.kind ≡ true
    → found ∷ bs ≡ front ++ b ∷ rest → NoneMust front → Follows found bs front b rest
may_first found bs [] b rest may must are quiet =
    let same : found ≡ b = cc in absurd (false≢true (sym may ∙ ap (λ x. is_must x.kind) same ∙ must))
may_first found bs (f ∷ fs) b rest may must are quiet =
    record { others = fs; front_is = cc; are = cc; quiet = All-tail (λ x. is_must x.kind ≡ false) f fs quiet }

module _ (profile : Profile) (cell : ℕ → Cell) where
  -- Behind other scalars, from a scalar on that begins at byte `at`

  record EndsAhead (at : ℕ) (before : List ℕ) (c : ℕ) (cs : List ℕ) (front : List Break) (b : Break) : Type 0 where
    line : List ℕ
    next : ℕ
    more : List ℕ
    is : cs ≡ line ++ next ∷ more
    none_ends : stays cell (Some (cell c).class) line ≡ true
    ends : ends_between (last_in profile cell c line) (cell next).class ≡ true
    last : b ≡ break_by (at + length (encode_utf8_all (c ∷ line))) (end_after (last_in profile cell c line))
    found : front ++ b ∷ [] ≡ breaks_from at (marks_between profile cell before (c ∷ line) (next ∷ more))

  module _ (at : ℕ) (before : List ℕ) (c d : ℕ) (ds : List ℕ) (front : List Break) (b : Break) where
    abbrev end : ℕ
    end = at + length (encode_utf8 c)

    -- the verdict after the first of them, where these follow
    abbrev before_these : List ℕ → Verdict
    before_these right = verdict_between_in profile (map cell (before ++ c ∷ [])) (map cell right)

    abbrev verdict : Verdict
    verdict = before_these (d ∷ ds)

    -- the line ends there
    ends_here : (bs rest : List Break) → cond (is_no verdict.kind) bs (break_by end verdict ∷ bs) ≡ front ++ b ∷ rest → NoneMust front
        → ends_between (cell c).class (cell d).class ≡ true → EndsAhead at before c (d ∷ ds) front b
    ends_here bs rest are quiet ends =
        let is = must_here profile cell before c d ds ends in
        let broken = ap (λ v. is_no v.kind) is in
        let first = must_first (break_by end verdict) bs front b rest (ap (λ v. is_must v.kind) is)
        (sym (ap (λ k. cond k bs (break_by end verdict ∷ bs)) broken) ∙ are) quiet in
        let place : end ≡ at + length (encode_utf8_all (c ∷ [])) = omega (arith, length-append (encode_utf8 c) []) in
        record {
          line = [];
          next = d;
          more = ds;
          is = refl;
          none_ends = refl;
          ends = ends;
          last = first.1 ∙ ap (break_by end) is ∙ ap (λ n. break_by n (end_after (cell c).class)) place;
          found = ap₂ (λ f x. f ++ x ∷ []) first.0 first.1 ∙ sym (ap (λ k. cond k [] (break_by end verdict ∷ [])) broken);
        }

    -- it ends further on; the breaks `others` come up to there behind the first scalar
    ends_later : (others : List Break) (k : Bool) → is_no verdict.kind ≡ k → front ≡ cond k others (break_by end verdict ∷ others)
        → ends_between (cell c).class (cell d).class ≡ false → EndsAhead end (before ++ c ∷ []) d ds others b
        → EndsAhead at before c (d ∷ ds) front b
    ends_later others k is front_is none e =
        let line = d ∷ e.line in
        let bs = breaks_from end (marks_between profile cell (before ++ c ∷ []) line (e.next ∷ e.more)) in
        let place : end + length (encode_utf8_all line) ≡ at + length (encode_utf8_all (c ∷ line)) =
        omega (arith, length-append (encode_utf8 c) (encode_utf8_all line)) in
        let found : cond k others (break_by end verdict ∷ others) ++ b ∷ [] ≡ cond k bs (break_by end verdict ∷ bs) =
        elim k as (λ k. cond k others (break_by end verdict ∷ others) ++ b ∷ [] ≡ cond k bs (break_by end verdict ∷ bs))
        [ true ↦ e.found | false ↦ ap (λ l. break_by end verdict ∷ l) e.found ] in
        record {
          line = line;
          next = e.next;
          more = e.more;
          is = ap (λ l. d ∷ l) e.is;
          none_ends = and-true _ _ (ap not none) e.none_ends;
          ends = e.ends;
          last = e.last ∙ ap (λ n. break_by n (end_after (last_in profile cell d e.line))) place;
          found = ap (λ f. f ++ b ∷ []) front_is ∙ found ∙ sym (ap (λ k. cond k bs (break_by end verdict ∷ bs)) is)
              ∙ ap (λ l. cond (is_no (before_these (d ∷ l)).kind) bs (break_by end (before_these (d ∷ l)) ∷ bs)) e.is;
        }

    -- either of the two
    ends_ahead : (bs rest : List Break) → cond (is_no verdict.kind) bs (break_by end verdict ∷ bs) ≡ front ++ b ∷ rest → NoneMust front
        → is_must b.kind ≡ true
        → ((others : List Break) → bs ≡ others ++ b ∷ rest → NoneMust others → EndsAhead end (before ++ c ∷ []) d ds others b)
        → EndsAhead at before c (d ∷ ds) front b
    ends_ahead bs rest are quiet must ahead = by (ends_between (cell c).class (cell d).class) refl (is_no verdict.kind) refl
      where
        chosen : (k : Bool) → is_no verdict.kind ≡ k → cond k bs (break_by end verdict ∷ bs) ≡ front ++ b ∷ rest
        chosen k is = sym (ap (λ k. cond k bs (break_by end verdict ∷ bs)) is) ∙ are

        by : (ends : Bool) → ends_between (cell c).class (cell d).class ≡ ends → (k : Bool) → is_no verdict.kind ≡ k
            → EndsAhead at before c (d ∷ ds) front b
        by true ends k is = ends_here bs rest are quiet ends
        by false none true is = ends_later front true is refl none (ahead front (chosen true is) quiet)
        by false none false is =
            let f = may_first (break_by end verdict) bs front b rest (no_must_here profile cell before c d ds none) must (chosen false is) quiet in
            ends_later f.others false is f.front_is none (ahead f.others f.are f.quiet)

  ends_ahead_of : (at : ℕ) (before : List ℕ) (c : ℕ) (cs : List ℕ) (front : List Break) (b : Break) (rest : List Break)
      → breaks_from at (marks_behind profile cell before (c ∷ cs)) ≡ front ++ b ∷ rest → NoneMust front → is_must b.kind ≡ true
      → b.at < at + length (encode_utf8_all (c ∷ cs)) → EndsAhead at before c cs front b
  ends_ahead_of at before c [] front b rest are quiet must within =
      let last = ap (λ v. breaks_from at (record { scalar = c; after = v } ∷ [])) (must_after_all profile cell before c) in
      let first = must_first _ [] front b rest refl (sym last ∙ are) quiet in
      let same = ap (λ x. x.at) first.1 in
      absurd (omega (arith, same, within, length-append (encode_utf8 c) []))
  ends_ahead_of at before c (d ∷ ds) front b rest are quiet must within =
      let end = at + length (encode_utf8 c) in
      let sum = length-append (encode_utf8 c) (encode_utf8_all (d ∷ ds)) in
      let there : b.at < end + length (encode_utf8_all (d ∷ ds)) = omega (arith, sum, within) in
      ends_ahead at before c d ds front b _ rest are quiet must
      (λ others those none. ends_ahead_of end (before ++ c ∷ []) d ds others b rest those none must there)

  -- a text of scalars that is cut where its breaks first say that a line must end
  pub record FirstEnd (text : List ℕ) (front : List Break) (b : Break) (rest : List Break) : Type 0 where
    pub taken : List ℕ
    pub next : ℕ
    pub more : List ℕ
    pub is : text ≡ taken ++ next ∷ more
    pub some : 0 < length taken
    pub none_ends : stays cell None taken ≡ true
    pub ends : ends_at (last_class cell None taken) (cell next).class ≡ true
    pub place : b.at ≡ length (encode_utf8_all taken)
    pub verdict : Some (record { kind = b.kind; rule = b.rule }) ≡ end_before (last_class cell None taken) true
    pub segments : cut_at 0 (front ++ b ∷ []) ≡ segments_of (ended (record { kind = b.kind; rule = b.rule }) (marks profile cell taken))
    pub within : All (λ x. x.at < b.at + 1) (front ++ b ∷ [])
    pub rest_is : rest ≡ map (moved b.at) (breaks profile cell (next ∷ more))

  pub first_end : (text : List ℕ) (front : List Break) (b : Break) (rest : List Break) → breaks profile cell text ≡ front ++ b ∷ rest
      → NoneMust front → is_must b.kind ≡ true → b.at < length (encode_utf8_all text) → FirstEnd text front b rest
  unfolding segments_of
  first_end [] front b rest are quiet must within = absurd (omega (arith, within))
  first_end (c ∷ cs) front b rest are quiet must within =
      let e = ends_ahead_of 0 [] c cs front b rest are quiet must (omega (arith, within)) in
      let taken = c ∷ e.line in
      let behind = e.next ∷ e.more in
      let class = last_in profile cell c e.line in
      let class_is = last_class-in profile cell c e.line in
      let verdict : record { kind = b.kind; rule = b.rule } ≡ end_after class = ap (λ x. record { kind = x.kind; rule = x.rule }) e.last in
      let place : b.at ≡ length (encode_utf8_all taken) = ap (λ x. x.at) e.last ∙ (omega arith) in
      let ms = ended (end_after class) (marks profile cell taken) in
      let found : front ++ b ∷ [] ≡ breaks_from 0 ms = e.found ∙ ap (breaks_from 0) (ends-marks profile cell e.next e.more [] c e.line e.ends) in
      let size : 0 + length (text_of ms) ≡ b.at =
      omega (
        arith,
        place,
        ap (λ l. length (encode_utf8_all l)) (scalars-ended (end_after class) (marks profile cell taken) ∙ scalars-behind profile cell [] taken),
      ) in
      let joined : (front ++ b ∷ []) ++ rest ≡ (front ++ b ∷ []) ++ breaks_from b.at (marks profile cell behind) =
      append_assoc front (b ∷ []) rest ∙ sym are ∙ ap (λ l. breaks profile cell (c ∷ l)) e.is
      ∙ ap (breaks_from 0) (marks-joined profile cell c e.line e.next e.more e.ends) ∙ breaks-joined 0 ms (marks profile cell behind)
      ∙ ap₂ (λ l n. l ++ breaks_from n (marks profile cell behind)) (sym found) size in
      record {
        taken = taken;
        next = e.next;
        more = e.more;
        is = ap (λ l. c ∷ l) e.is;
        some = omega arith;
        none_ends = e.none_ends;
        ends = ap (λ o. ends_at o (cell e.next).class) class_is ∙ e.ends;
        place = place;
        verdict = ap Some verdict ∙ sym (ap (λ o. end_before o true) class_is);
        segments = ap (cut_at 0) found ∙ sym (segments-cut 0 0 ms) ∙ ap (λ v. segments_of (ended v (marks profile cell taken))) (sym verdict);
        within = subst (All (λ x. x.at < b.at + 1)) (sym found) (breaks-below (b.at + 1) 0 ms (omega (arith, size)));
        rest_is = append_cancel_left (front ++ b ∷ []) _ _ joined ∙ breaks-moved_from b.at (marks profile cell behind);
      }

  -- the same of bytes
  pub record FirstEndIn (text : List ℕ) (front : List Break) (b : Break) (rest : List Break) : Type 0 where
    pub cut : FirstEnd (chars text) front b rest
    pub front_is : take b.at text ≡ encode_utf8_all cut.taken
    pub behind_is : drop b.at text ≡ encode_utf8_all (cut.next ∷ cut.more)
    pub front_chars : chars (take b.at text) ≡ cut.taken
    pub behind_chars : chars (drop b.at text) ≡ cut.next ∷ cut.more
    pub front_utf8 : IsUtf8 (take b.at text)
    pub behind_utf8 : IsUtf8 (drop b.at text)
    pub boundary : IsCharBoundary text b.at

  pub first_end_in : (text : List ℕ) (front : List Break) (b : Break) (rest : List Break) → IsUtf8 text
      → breaks profile cell (chars text) ≡ front ++ b ∷ rest → NoneMust front → is_must b.kind ≡ true
      → b.at < length text → FirstEndIn text front b rest
  first_end_in text front b rest utf8 are quiet must within =
      let bytes = encodes-chars text utf8 in
      let e = first_end (chars text) front b rest are quiet must (subst (λ l. b.at < length l) (sym bytes) within) in
      let behind = e.next ∷ e.more in
      let parts : text ≡ encode_utf8_all e.taken ++ encode_utf8_all behind = sym bytes ∙ ap encode_utf8_all e.is ∙ encodes-append e.taken behind in
      let all : scalars (e.taken ++ behind) ≡ true = sym (ap scalars e.is) ∙ scalars-chars text utf8 in
      let left = scalars-left e.taken behind all in
      let right = scalars-right e.taken behind all in
      let front_is : take b.at text ≡ encode_utf8_all e.taken =
      ap (take b.at) parts ∙ take_at (encode_utf8_all e.taken) (encode_utf8_all behind) b.at (sym e.place) in
      let behind_is : drop b.at text ≡ encode_utf8_all behind =
      ap (drop b.at) parts ∙ drop_at (encode_utf8_all e.taken) (encode_utf8_all behind) b.at (sym e.place) in
      let behind_utf8 = subst IsUtf8 (sym behind_is) (IsUtf8-scalars behind right) in
      record {
        cut = e;
        front_is = front_is;
        behind_is = behind_is;
        front_chars = ap chars front_is ∙ chars-encodes e.taken left;
        behind_chars = ap chars behind_is ∙ chars-encodes behind right;
        front_utf8 = subst IsUtf8 (sym front_is) (IsUtf8-scalars e.taken left);
        behind_utf8 = behind_utf8;
        boundary = IsCharBoundary-from_drop text b.at (omega (arith, within)) behind_utf8;
      }
