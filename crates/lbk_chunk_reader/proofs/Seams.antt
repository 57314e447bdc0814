-- Between two passages a word boundary stands.
use Rattle.std.proofs.Common.{◌≡◌, ◌⊎◌, inl, inr, ⊎_elim, ℕ, Bool, true, false, cond, not, ◌||◌, Some, List, [], ◌∷◌}
use Rattle.std.proofs.Common.{◌++◌, append-nil, map, unwrap_or, refl, sym, ap, ap₂, ◌∙◌}
use Rattle.std.specs.List.{flat_map}
use Rattle.std.proofs.lemmas.List.{map-append}
use Rattle.ucd_breaks.specs.WordBreak.{word_break}
use Rattle.ucd_breaks.specs.declared.WordBreak.{WordBreak}
use Rattle.ucd_breaks.specs.declared.WordBreak.TheVariants.{Cr, Lf, Newline}
use Rattle.ucd_emoji.specs.Binary.{is_extended_pictographic}
use Rattle.unicode_segmentation.specs.Segments.{cut}
use Rattle.unicode_segmentation.specs.Word.{break_by_pair, is_ignored, is_word_break, joins, joins_flag, significant}
use Rattle.unicode_segmentation.specs.Word.{value_at}
use Rattle.unicode_segmentation.proofs.SegmentsLemmas.{attach}
use Rattle.unicode_segmentation.proofs.WordLemmas.{significant-ignored, significant-kept}
use Rattle.lbk_rules.specs.declared.Cell.{Cell}
use Rattle.lbk_rules.specs.declared.Kind.{Kind}
use Rattle.lbk_rules.specs.declared.Kind.TheVariants.{No, May, Must}
use Rattle.lbk_values.specs.declared.profile.Profile.{Profile}
use Rattle.lbk_rules.specs.Marks.{Marked, marks_behind, scalars_of}
use Rattle.lbk_rules.specs.Verdict.{verdict_between_in}
use Rattle.lbk_rules.proofs.EndLemmas.{only_must_between}
use Rattle.lbk_passage.specs.Passages.{cut_after, ends_passage, is_must, join_first}
use Rattle.lbk_words.specs.Words.{parts_of}
use Rattle.lbk_words.proofs.ContextLemmas.{decided-end}
use Rattle.lbk_words.proofs.FreshLemmas.{cut-fresh, cut-step, is_line_end}
use Rattle.lbk_chunk_reader.specs.Agreement.{AgreeOnLines, ends_between_words}

pair-ends : (left right : WordBreak) (pict : Bool) → ends_between_words left right ≡ true
    → break_by_pair left right pict ≡ Some true
pair-ends Cr Lf pict ends = cc
pair-ends Newline _ pict ends = refl
pair-ends Cr _ pict ends = refl
pair-ends Lf _ pict ends = refl
pair-ends _ _ pict ends = cc

ends-line : (left right : WordBreak) → ends_between_words left right ≡ true → is_line_end left ≡ true
ends-line Cr Lf ends = refl
ends-line Newline _ ends = refl
ends-line Cr _ ends = refl
ends-line Lf _ ends = refl
ends-line _ _ ends = cc

-- before the end of a line two neighbours alone decide
pair-decides : (left right : WordBreak) (pict : Bool) → is_line_end right ≡ true
    → (b : Bool) × (break_by_pair left right pict ≡ Some b)
pair-decides Cr Lf pict ends = (false, refl)
pair-decides _ Newline pict ends = (true, refl)
pair-decides _ Cr pict ends = (true, refl)
pair-decides _ Lf pict ends = (true, refl)
pair-decides left _ pict ends = absurd (let no : ⊥ = cc in no)

must-kind : (kind : Kind) → is_must kind ≡ true → kind ≡ Must
must-kind No is = cc
must-kind May is = cc
must-kind Must is = refl

attach-over : (r b : Bool) (part first : List ℕ) (ps qs : List (List ℕ))
    → attach r part (attach b first ps ++ qs) ≡ attach r part (attach b first ps) ++ qs
attach-over true b part first ps qs = refl
attach-over false true part first ps qs = refl
attach-over false false part first [] qs = refl
attach-over false false part first (p ∷ ps) qs = refl

-- what decides where two neighbours alone do not
abbrev otherwise : ℕ → List ℕ → ℕ → WordBreak → Bool
otherwise last before next far_right =
    let values = significant (last ∷ before) in
    not (joins (value_at values 1) (value_at values 0) (word_break next) far_right || joins_flag (last ∷ before) next)

inside : (last : ℕ) (before : List ℕ) (next : ℕ) (after : List ℕ)
    → is_word_break (last ∷ before) (next ∷ after)
    ≡ unwrap_or (break_by_pair (word_break last) (word_break next) (is_extended_pictographic next))
    (otherwise last before next (value_at (significant after) 0))
unfolding is_word_break
inside last before next after = refl

module _ (profile : Profile) (cell : ℕ → Cell) (agree : AgreeOnLines cell) where
  abbrev mark : List ℕ → ℕ → List ℕ → Marked
  mark before c cs = record {
    scalar = c;
    after = verdict_between_in profile (map cell (before ++ c ∷ [])) (map cell cs);
  }

  -- where a line must end, a boundary stands
  must-ends : (before : List ℕ) (c d : ℕ) (ds : List ℕ) → ends_passage (mark before c (d ∷ ds)) ≡ true
      → ends_between_words (word_break c) (word_break d) ≡ true
  must-ends before c d ds must =
      let cells : map cell (before ++ c ∷ []) ≡ map cell before ++ cell c ∷ [] = map-append cell before (c ∷ []) in
      agree c d (only_must_between profile (map cell before) (cell c) (cell d) (map cell ds)
      (sym (ap (λ l. (verdict_between_in profile l (cell d ∷ map cell ds)).kind) cells)
      ∙ must-kind (mark before c (d ∷ ds)).after.kind must))

  boundary : (before b : List ℕ) (c : ℕ) (cs : List ℕ) → ends_passage (mark before c cs) ≡ true
      → is_word_break (c ∷ b) cs ≡ true
  boundary before b c [] must = decided-end (c ∷ b)
  boundary before b c (d ∷ ds) must =
      inside c b d ds
      ∙ ap (λ o. unwrap_or o (otherwise c b d (value_at (significant ds) 0)))
      (pair-ends (word_break c) (word_break d) (is_extended_pictographic d) (must-ends before c d ds must))

  -- the scalars `q` behind `d` tell a rule that looks behind it as much as all of `ds`
  abbrev Tells : ℕ → List ℕ → List ℕ → Type 0
  Tells d q ds = (is_line_end (word_break d) ≡ true) ⊎ (value_at (significant q) 0 ≡ value_at (significant ds) 0)

  record First (d : ℕ) (ds : List ℕ) (passages : List (List Marked)) : Type 0 where
    part : List Marked
    others : List (List Marked)
    behind : List ℕ
    is : passages ≡ part ∷ others
    scalars : scalars_of part ≡ d ∷ behind
    tells : Tells d behind ds

  tells-on : (d e : ℕ) (q es : List ℕ) → Tells e q es → Tells d (e ∷ q) (e ∷ es)
  tells-on d e q es tells =
      (elim (is_ignored (word_break e)) as (λ b. is_ignored (word_break e) ≡ b → Tells d (e ∷ q) (e ∷ es)) [
        | true ↦ λ ignored.
            ⊎_elim (λ (ends : is_line_end (word_break e) ≡ true). absurd (apart (word_break e) ignored ends))
            (λ (same : value_at (significant q) 0 ≡ value_at (significant es) 0).
            inr (ap (λ v. value_at v 0) (significant-ignored e q ignored) ∙ same
            ∙ sym (ap (λ v. value_at v 0) (significant-ignored e es ignored)))) tells
        | false ↦ λ kept.
            inr (ap (λ v. value_at v 0) (significant-kept e q kept)
            ∙ sym (ap (λ v. value_at v 0) (significant-kept e es kept)))
      ]) refl
    where
      apart : (value : WordBreak) → is_ignored value ≡ true → is_line_end value ≡ true → ⊥
      apart Newline ignored ends = cc
      apart Cr ignored ends = cc
      apart Lf ignored ends = cc
      apart _ ignored ends = cc

  first : (before : List ℕ) (d : ℕ) (ds : List ℕ)
      → First d ds (cut_after ends_passage (marks_behind profile cell before (d ∷ ds)))
  first before d [] =
      let passages = (mark before d [] ∷ []) ∷ [] in
      let one : First d [] passages = record {
        part = mark before d [] ∷ [];
        others = [];
        behind = [];
        is = refl;
        scalars = refl;
        tells = inr refl;
      } in
      (elim (ends_passage (mark before d [])) as (λ b. First d [] (cond b passages passages)) [
        | true ↦ one
        | false ↦ one
      ])
  first before d (e ∷ es) =
      let m = mark before d (e ∷ es) in
      let rest = cut_after ends_passage (marks_behind profile cell (before ++ d ∷ []) (e ∷ es)) in
      let on = first (before ++ d ∷ []) e es in
      (elim (ends_passage m) as (λ b. ends_passage m ≡ b
      → First d (e ∷ es) (cond b ((m ∷ []) ∷ rest) (join_first m rest))) [
        | true ↦ λ must. record {
          part = m ∷ [];
          others = rest;
          behind = [];
          is = refl;
          scalars = refl;
          tells = inl (ends-line (word_break d) (word_break e) (must-ends before d e es must));
        }
        | false ↦ λ none. record {
          part = m ∷ on.part;
          others = on.others;
          behind = e ∷ on.behind;
          is = ap (join_first m) on.is;
          scalars = ap (λ l. d ∷ l) on.scalars;
          tells = tells-on d e on.behind es on.tells;
        }
      ]) refl

  same-rule : (c d : ℕ) (b q ds : List ℕ) → Tells d q ds
      → is_word_break (c ∷ b) (d ∷ ds) ≡ is_word_break (c ∷ b) (d ∷ q)
  same-rule c d b q ds tells =
      let far = value_at (significant ds) 0 in
      let near = value_at (significant q) 0 in
      let pair = break_by_pair (word_break c) (word_break d) (is_extended_pictographic d) in
      let by : unwrap_or pair (otherwise c b d far) ≡ unwrap_or pair (otherwise c b d near) =
      ⊎_elim (λ (ends : is_line_end (word_break d) ≡ true).
      let decided = pair-decides (word_break c) (word_break d) (is_extended_pictographic d) ends in
      ap (λ o. unwrap_or o (otherwise c b d far)) decided.1
      ∙ sym (ap (λ o. unwrap_or o (otherwise c b d near)) decided.1))
      (λ (same : near ≡ far). ap (λ f. unwrap_or pair (otherwise c b d f)) (sym same)) tells in
      inside c b d ds ∙ by ∙ sym (inside c b d q)

  -- the parts of passages, the first of which is cut behind the scalars `b`
  abbrev pub parts_behind : List ℕ → List (List Marked) → List (List ℕ)
  parts_behind b [] = []
  parts_behind b (ms ∷ others) = cut is_word_break b (scalars_of ms) [] ++ flat_map (λ p. parts_of (scalars_of p))
      others

  behind-none : (passages : List (List Marked))
      → parts_behind [] passages ≡ flat_map (λ p. parts_of (scalars_of p)) passages
  behind-none [] = refl
  behind-none (ms ∷ others) = refl

  cut-one : (b : List ℕ) (c : ℕ) → cut is_word_break b (c ∷ []) [] ≡ (c ∷ []) ∷ []
  unfolding cut
  cut-one b c = cut-step b c [] ∙ ap (λ r. attach r (c ∷ []) []) (decided-end (c ∷ b))

  pub parts-seam : (before b cs : List ℕ) → cut is_word_break b cs []
      ≡ parts_behind b (cut_after ends_passage (marks_behind profile cell before cs))
  unfolding cut
  parts-seam before b [] = refl
  parts-seam before b (c ∷ []) =
      let m = mark before c [] in
      elim (ends_passage m) as (λ v. cut is_word_break b (c ∷ []) []
      ≡ parts_behind b (cond v ((m ∷ []) ∷ []) ((m ∷ []) ∷ []))) [
        | true ↦ sym (append-nil (cut is_word_break b (c ∷ []) []))
        | false ↦ sym
            (append-nil (cut is_word_break b (c ∷ []) []))
      ]
  parts-seam before b (c ∷ d ∷ ds) =
      let cs = d ∷ ds in
      let m = mark before c cs in
      let rest = cut_after ends_passage (marks_behind profile cell (before ++ c ∷ []) cs) in
      let on = first (before ++ c ∷ []) d ds in
      let fresh = parts-seam (before ++ c ∷ []) [] (d ∷ ds) in
      let going = parts-seam (before ++ c ∷ []) (c ∷ b) (d ∷ ds) in
      (elim (ends_passage m) as (λ v. ends_passage m ≡ v
      → cut is_word_break b (c ∷ cs) [] ≡ parts_behind b (cond v ((m ∷ []) ∷ rest) (join_first m rest))) [
        | true ↦ λ must.
            let there = boundary before b c cs must in
            cut-step b c cs
            ∙ ap (λ r. attach r (c ∷ []) (cut is_word_break (c ∷ b) cs [])) there
            ∙ ap (λ l. (c ∷ []) ∷ l) (cut-fresh (c ∷ b) cs there ∙ fresh ∙ behind-none rest)
            ∙ sym (ap (λ l. l ++ flat_map (λ p. parts_of (scalars_of p)) rest) (cut-one b c))
        | false ↦ λ none.
            let q = on.behind in
            let others = flat_map (λ p. parts_of (scalars_of p)) on.others in
            let mine = cut is_word_break (c ∷ b) (d ∷ q) [] in
            let inner = cut is_word_break (d ∷ c ∷ b) q [] in
            let going_on : cut is_word_break (c ∷ b) cs [] ≡ mine ++ others =
            going ∙ ap (parts_behind (c ∷ b)) on.is ∙ ap (λ l. cut is_word_break (c ∷ b) l [] ++ others) on.scalars in
            cut-step b c cs
            ∙ ap₂ (λ r l. attach r (c ∷ []) l) (same-rule c d b q ds on.tells) going_on
            ∙ ap (λ l. attach (is_word_break (c ∷ b) (d ∷ q)) (c ∷ []) (l ++ others)) (cut-step (c ∷ b) d q)
            ∙ attach-over (is_word_break (c ∷ b) (d ∷ q)) (is_word_break (d ∷ c ∷ b) q) (c ∷ []) (d ∷ []) inner others
            ∙ ap (λ l. attach (is_word_break (c ∷ b) (d ∷ q)) (c ∷ []) l ++ others) (sym (cut-step (c ∷ b) d q))
            ∙ ap (λ l. l ++ others) (sym (cut-step b c (d ∷ q)))
            ∙ ap (λ l. cut is_word_break b (c ∷ l) [] ++ others) (sym on.scalars)
            ∙ sym (ap (λ ps. parts_behind b (join_first m ps)) on.is)
      ]) refl

  -- the parts of a whole text
  pub parts-of-passages : (cs : List ℕ) → parts_of cs
      ≡ flat_map (λ p. parts_of (scalars_of p)) (cut_after ends_passage (marks_behind profile cell [] cs))
  parts-of-passages cs = parts-seam [] [] cs ∙ behind-none (cut_after ends_passage (marks_behind profile cell [] cs))
