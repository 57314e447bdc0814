-- The marks of a text, and where its first passage ends.
use Rattle.std.proofs.Common.{◌≡◌, ◌⊎◌, ℕ, ◌<◌, ◌≤◌, Bool, true, false, not, List, [], ◌∷◌, ◌++◌, map, length, Some, None, refl, sym, ap, ◌∙◌, ⊎_elim, append_assoc, append-nil, arith}
use Rattle.std.proofs.lemmas.List.{map-append}
use Rattle.lbk_rules.specs.declared.Cell.{Cell}
use Rattle.lbk_rules.specs.declared.Kind.{Kind}
use Rattle.lbk_rules.specs.declared.Kind.TheVariants.{No, May, Must}
use Rattle.lbk_values.specs.declared.profile.Profile.{Profile}
use Rattle.lbk_rules.specs.Ends.{ends_between, end_after, end_of_text}
use Rattle.lbk_rules.specs.Verdict.{verdict_between_in}
use Rattle.lbk_rules.proofs.EndLemmas.{no_must_between}
use Rattle.lbk_rules.proofs.MarkLemmas.{MustStand, ends-marks, last-marks, last_in, marks-behind_line, marks-split, marks_between, must-stands, must_after_all, must_here, scalars-between}
use Rattle.lbk_passage.specs.Marks.{marks_behind, marks, scalars_of, ended}
use Rattle.lbk_passage.specs.Passages.{passages, cut_after, ends_passage, is_must}
use Rattle.lbk_passage.specs.Laws.{IsBehind, IsPart}
use Rattle.lbk_passage.specs.Next.{BeginsWithAll}
use Rattle.lbk_passage.specs.Stays.{stays, last_class}
use Rattle.lbk_passage.proofs.Cutting.{IsOpenPart, IsClosed, cut_after-part, cut_after-open, cut_after-few, cut_after-append, cut_after-joined}
use Rattle.lbk_passage.proofs.Booleans.{both-left, both-right}

not-true : (b : Bool) → not b ≡ true → b ≡ false
not-true true h = sym h
not-true false h = refl

pub is_must-kind : (k : Kind) → is_must k ≡ true → k ≡ Must
is_must-kind No h = cc
is_must-kind May h = cc
is_must-kind Must h = refl

module _ (profile : Profile) (cell : ℕ → Cell) where
  pub last_class-in : (c : ℕ) (cs : List ℕ) → last_class cell (Some (cell c).class) cs ≡ Some (last_in profile cell c cs)
  last_class-in c [] = refl
  last_class-in c (d ∷ ds) = last_class-in d ds

  pub no_must_here : (before : List ℕ) (c y : ℕ) (more : List ℕ) → ends_between (cell c).class (cell y).class ≡ false
      → is_must (verdict_between_in profile (map cell (before ++ c ∷ [])) (map cell (y ∷ more))).kind ≡ false
  no_must_here before c y more ends =
      ap (λ l. is_must (verdict_between_in profile l (map cell (y ∷ more))).kind) (map-append cell before (c ∷ []))
      ∙ no_must_between profile (map cell before) (cell c) (cell y) (map cell more) ends

  -- a line must end after the last of a text
  pub marks-closed : (before cs : List ℕ) → IsClosed ends_passage (marks_behind profile cell before cs)
  marks-closed before [] = tt
  marks-closed before (c ∷ []) = ap (λ v. is_must v.kind) (must_after_all profile cell before c)
  marks-closed before (c ∷ d ∷ ds) = marks-closed (before ++ c ∷ []) (d ∷ ds)

  -- the marks of a paragraph before more text, and at the end of the text
  module _ (y : ℕ) (more : List ℕ) where
    ends-part : (before : List ℕ) (c : ℕ) (cs : List ℕ) → stays cell (Some (cell c).class) cs ≡ true → ends_between (last_in profile cell c cs) (cell y).class ≡ true
        → IsPart ends_passage (marks_between profile cell before (c ∷ cs) (y ∷ more))
    ends-part before c [] none ends = ap (λ v. is_must v.kind) (must_here profile cell before c y more ends)
    ends-part before c (d ∷ ds) none ends =
        (no_must_here before c d (ds ++ y ∷ more) (not-true _ (both-left _ _ none)), ends-part (before ++ c ∷ []) d ds (both-right _ _ none) ends)

  open-part : (before : List ℕ) (c : ℕ) (cs behind : List ℕ) → stays cell (Some (cell c).class) cs ≡ true
      → IsOpenPart ends_passage (marks_between profile cell before (c ∷ cs) behind)
  open-part before c [] behind none = tt
  open-part before c (d ∷ ds) behind none =
      (no_must_here before c d (ds ++ behind) (not-true _ (both-left _ _ none)), open-part (before ++ c ∷ []) d ds behind (both-right _ _ none))

  open-alone : (before : List ℕ) (c : ℕ) (cs : List ℕ) → stays cell (Some (cell c).class) cs ≡ true
      → IsOpenPart ends_passage (marks_behind profile cell before (c ∷ cs))
  open-alone before c [] none = tt
  open-alone before c (d ∷ ds) none =
      (no_must_here before c d ds (not-true _ (both-left _ _ none)), open-alone (before ++ c ∷ []) d ds (both-right _ _ none))

  -- a paragraph is the first passage of every text that goes on with a scalar before which a line must end
  pub first_passage : (c : ℕ) (cs : List ℕ) (y : ℕ) (more : List ℕ) → stays cell (Some (cell c).class) cs ≡ true
      → ends_between (last_in profile cell c cs) (cell y).class ≡ true
      → passages profile cell ((c ∷ cs) ++ y ∷ more) ≡ ended (end_after (last_in profile cell c cs)) (marks profile cell (c ∷ cs)) ∷ passages profile cell (y ∷ more)
  unfolding passages
  first_passage c cs y more none ends =
      ap (cut_after ends_passage) (marks-split profile cell [] (c ∷ cs) (y ∷ more))
      ∙ cut_after-part ends_passage (marks_between profile cell [] (c ∷ cs) (y ∷ more)) (marks_behind profile cell (c ∷ cs) (y ∷ more)) (ends-part y more [] c cs none ends)
      ∙ ap (λ l. l ∷ cut_after ends_passage (marks_behind profile cell (c ∷ cs) (y ∷ more))) (ends-marks profile cell y more [] c cs ends)
      ∙ ap (λ l. ended (end_after (last_in profile cell c cs)) (marks profile cell (c ∷ cs)) ∷ cut_after ends_passage l)
      (ap (λ l. marks_behind profile cell l (y ∷ more)) (sym (append-nil (c ∷ cs)))
      ∙ marks-behind_line profile cell (c ∷ cs) [] (y ∷ more) (must-stands profile cell c cs y more ends))

  -- and the one passage of the text that ends with it
  pub only_passage : (c : ℕ) (cs : List ℕ) → stays cell (Some (cell c).class) cs ≡ true
      → passages profile cell (c ∷ cs) ≡ ended end_of_text (marks profile cell (c ∷ cs)) ∷ []
  unfolding passages
  only_passage c cs none =
      cut_after-few ends_passage _ _ (open-alone [] c cs none) ∙ ap (λ l. l ∷ []) (last-marks profile cell [] c cs)

  -- scalars between which no line must end are at most one passage
  pub few_passages : (cs : List ℕ) → stays cell None cs ≡ true → length (passages profile cell cs) ≤ 1
  unfolding passages
  few_passages [] none = omega arith
  few_passages (c ∷ cs) none =
      let one = ap length (only_passage c cs none) in omega (arith, one)

  -- and begin the first passage of every text that goes on from them
  pub begins_with_all : (cs more : List ℕ) → 0 < length cs → stays cell None cs ≡ true → BeginsWithAll cs (passages profile cell (cs ++ more))
  unfolding passages
  begins_with_all [] more some none = absurd (omega arith)
  begins_with_all (c ∷ cs) more some none =
      let held = cut_after-open ends_passage _ _ (marks_behind profile cell (c ∷ cs) more) (open-part [] c cs more none) in
      record {
        first = marks_between profile cell [] (c ∷ cs) more ++ held.behind;
        others = held.others;
        behind = scalars_of held.behind;
        is = ap (cut_after ends_passage) (marks-split profile cell [] (c ∷ cs) more) ∙ held.is;
        holds = map-append (λ m. m.scalar) (marks_between profile cell [] (c ∷ cs) more) held.behind
            ∙ ap (λ l. l ++ scalars_of held.behind) (scalars-between profile cell [] (c ∷ cs) more);
      }

  closed : (before : List ℕ) (c : ℕ) (cs behind : List ℕ) → (verdict_between_in profile (map cell (before ++ c ∷ cs)) (map cell behind)).kind ≡ Must
      → IsClosed ends_passage (marks_between profile cell before (c ∷ cs) behind)
  closed before c [] behind must = ap is_must must
  closed before c (d ∷ ds) behind must =
      closed (before ++ c ∷ []) d ds behind
      (ap (λ l. (verdict_between_in profile (map cell l) (map cell behind)).kind) (append_assoc before (c ∷ []) (d ∷ ds)) ∙ must)

  -- the paragraph law
  pub behind_earlier : (earlier text : List ℕ) → (earlier ≡ []) ⊎ MustStand profile cell earlier text → IsBehind profile cell earlier text
  unfolding passages
  behind_earlier [] text stands = record { given = []; scalars = refl; joined = refl }
  behind_earlier (c ∷ cs) text stands =
      let must : MustStand profile cell (c ∷ cs) text = ⊎_elim (λ e. cc) (λ m. m) stands in
      record {
        given = cut_after ends_passage (marks_between profile cell [] (c ∷ cs) text);
        scalars = cut_after-joined ends_passage (λ m. m.scalar) (marks_between profile cell [] (c ∷ cs) text) ∙ scalars-between profile cell [] (c ∷ cs) text;
        joined = ap (cut_after ends_passage) (marks-split profile cell [] (c ∷ cs) text)
            ∙ cut_after-append ends_passage (marks_between profile cell [] (c ∷ cs) text) (marks_behind profile cell (c ∷ cs) text) (closed [] c cs text must)
            ∙ ap (λ l. cut_after ends_passage (marks_between profile cell [] (c ∷ cs) text) ++ cut_after ends_passage l)
            (ap (λ l. marks_behind profile cell l text) (sym (append-nil (c ∷ cs))) ∙ marks-behind_line profile cell (c ∷ cs) [] text must);
      }
