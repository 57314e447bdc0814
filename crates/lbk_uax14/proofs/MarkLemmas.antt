-- The marks of a text, and of two texts joined.
use Rattle.std.proofs.Common.{◌≡◌, ℕ, Bool, true, false, ◌&&◌, List, [], ◌∷◌, ◌++◌, map, refl, sym, ap, ◌∙◌}
use Rattle.std.proofs.Common.{append_assoc, append-nil}
use Rattle.std.proofs.lemmas.List.{map-append}
use Rattle.lbk_uax14.specs.declared.classes.Class.{Class}
use Rattle.lbk_uax14.specs.declared.cells.Cell.{Cell}
use Rattle.lbk_uax14.specs.declared.verdicts.Kind.TheVariants.{Must}
use Rattle.lbk_uax14.specs.declared.verdicts.Verdict.{Verdict}
use Rattle.lbk_values.specs.declared.profile.Profile.{Profile}
use Rattle.lbk_uax14.specs.Ends.{ends_line, ends_between, end_after, end_of_text}
use Rattle.lbk_uax14.specs.Joins.{must_end_between, end_before_more}
use Rattle.lbk_uax14.specs.Marks.{Marked, marks_behind, marks, scalars_of, ended}
use Rattle.lbk_uax14.specs.Verdict.{verdict_between_in}
use Rattle.lbk_uax14.proofs.EndLemmas.{must_between, must_at_end, same_before}
use Rattle.lbk_uax14.proofs.ParagraphLemmas.{paragraph_between}

pub scalars-ended : (end : Verdict) (ms : List Marked) → scalars_of (ended end ms) ≡ scalars_of ms
scalars-ended end [] = refl
scalars-ended end (m ∷ []) = refl
scalars-ended end (m ∷ n ∷ ms) = ap (λ l. m.scalar ∷ l) (scalars-ended end (n ∷ ms))

ends_line-between : (a b : Bool) → (a && b) ≡ true → a ≡ true
ends_line-between true b h = refl
ends_line-between false b h = h

module _ (profile : Profile) (cell : ℕ → Cell) where
  -- the marks of scalars that stand between others
  abbrev pub marks_between : List ℕ → List ℕ → List ℕ → List Marked
  marks_between before [] behind = []
  marks_between before (c ∷ cs) behind =
      record { scalar = c; after = verdict_between_in profile (map cell (before ++ c ∷ [])) (map cell (cs ++ behind)) }
      ∷ marks_between (before ++ c ∷ []) cs behind

  pub marks-split : (before xs ys : List ℕ)
      → marks_behind profile cell before (xs ++ ys) ≡ marks_between before xs ys ++ marks_behind profile cell
      (before ++ xs) ys
  marks-split before [] ys = ap (λ l. marks_behind profile cell l ys) (sym (append-nil before))
  marks-split before (c ∷ cs) ys =
      ap (λ l. record {
        scalar = c;
        after = verdict_between_in profile (map cell (before ++ c ∷ []))
            (map cell (cs ++ ys));
      } ∷ l)
      (marks-split (before ++ c ∷ []) cs ys
      ∙ ap (λ l. marks_between (before ++ c ∷ []) cs ys ++ marks_behind profile cell l ys)
      (append_assoc before (c ∷ []) cs))

  pub scalars-between : (before xs ys : List ℕ) → scalars_of (marks_between before xs ys) ≡ xs
  scalars-between before [] ys = refl
  scalars-between before (c ∷ cs) ys = ap (λ l. c ∷ l) (scalars-between (before ++ c ∷ []) cs ys)

  pub scalars-behind : (before xs : List ℕ) → scalars_of (marks_behind profile cell before xs) ≡ xs
  scalars-behind before [] = refl
  scalars-behind before (c ∷ cs) = ap (λ l. c ∷ l) (scalars-behind (before ++ c ∷ []) cs)

  -- behind a position where a line must end, the text before it decides nothing
  abbrev pub MustStand : List ℕ → List ℕ → Type 0
  MustStand earlier text = (verdict_between_in profile (map cell earlier) (map cell text)).kind ≡ Must

  across : (earlier ds : List ℕ) (c : ℕ) (cs : List ℕ) → MustStand earlier (ds ++ c ∷ cs)
      → verdict_between_in profile (map cell ((earlier ++ ds) ++ c ∷ [])) (map cell cs)
      ≡ verdict_between_in profile (map cell (ds ++ c ∷ [])) (map cell cs)
  across earlier [] c cs must =
      ap (λ l. verdict_between_in profile l (map cell cs))
      (ap (λ l. map cell (l ++ c ∷ [])) (append-nil earlier) ∙ map-append cell earlier (c ∷ []))
      ∙ paragraph_between profile (map cell earlier) (cell c) [] (map cell cs) must
  across earlier (d ∷ ds) c cs must =
      ap (λ l. verdict_between_in profile l (map cell cs))
      (ap (map cell) (append_assoc earlier (d ∷ ds) (c ∷ [])) ∙ map-append cell earlier (d ∷ (ds ++ c ∷ [])))
      ∙ paragraph_between profile (map cell earlier) (cell d) (map cell (ds ++ c ∷ [])) (map cell cs)
      (ap (λ l. (verdict_between_in profile (map cell earlier) (cell d ∷ l)).kind)
      (sym (map-append cell (ds ++ c ∷ []) cs) ∙ ap (map cell) (append_assoc ds (c ∷ []) cs)) ∙ must)

  pub marks-behind_line : (earlier ds cs : List ℕ) → MustStand earlier (ds ++ cs)
      → marks_behind profile cell (earlier ++ ds) cs ≡ marks_behind profile cell ds cs
  marks-behind_line earlier ds [] must = refl
  marks-behind_line earlier ds (c ∷ cs) must =
      ap (λ v. record { scalar = c; after = v } ∷ marks_behind profile cell ((earlier ++ ds) ++ c ∷ []) cs)
      (across earlier ds c cs must)
      ∙ ap (λ l. record { scalar = c; after = verdict_between_in profile (map cell (ds ++ c ∷ [])) (map cell cs) } ∷ l)
      (ap (λ l. marks_behind profile cell l cs) (append_assoc earlier ds (c ∷ []))
      ∙ marks-behind_line earlier (ds ++ c ∷ []) cs
      (ap (λ l. (verdict_between_in profile (map cell earlier) (map cell l)).kind) (append_assoc ds (c ∷ []) cs)
      ∙ must))

  -- the class of the last of some scalars
  abbrev pub last_in : ℕ → List ℕ → Class
  last_in c [] = (cell c).class
  last_in c (d ∷ ds) = last_in d ds

  record EndsIn (c : ℕ) (cs : List ℕ) : Type 0 where
    front : List ℕ
    last : ℕ
    is : c ∷ cs ≡ front ++ last ∷ []
    class_is : (cell last).class ≡ last_in c cs

  ends_in : (c : ℕ) (cs : List ℕ) → EndsIn c cs
  ends_in c [] = record { front = []; last = c; is = refl; class_is = refl }
  ends_in c (d ∷ ds) =
      let e = ends_in d ds in
      record { front = c ∷ e.front; last = e.last; is = ap (λ l. c ∷ l) e.is; class_is = e.class_is }

  -- what follows the end of a line decides nothing before its last scalar
  same_ahead : (left : List Cell) (d : ℕ) (ds more : List ℕ) → ends_line (last_in d ds) ≡ true
      → verdict_between_in profile left (map cell ((d ∷ ds) ++ more))
      ≡ verdict_between_in profile left (map cell (d ∷ ds))
  same_ahead left d ds more ends =
      let e = ends_in d ds in
      let cut : map cell ((d ∷ ds) ++ more) ≡ map cell e.front ++ cell e.last ∷ map cell more =
      ap (λ l. map cell (l ++ more)) e.is ∙ ap (map cell) (append_assoc e.front (e.last ∷ []) more)
      ∙ map-append cell e.front (e.last ∷ more) in
      let alone : map cell (d ∷ ds) ≡ map cell e.front ++ cell e.last ∷ [] =
      ap (map cell) e.is ∙ map-append cell e.front (e.last ∷ []) in
      ap (verdict_between_in profile left) cut
      ∙ same_before profile left (map cell e.front) (cell e.last) (map cell more) [] (ap ends_line e.class_is ∙ ends)
      ∙ ap (verdict_between_in profile left) (sym alone)

  pub must_here : (before : List ℕ) (c y : ℕ) (more : List ℕ) → ends_between (cell c).class (cell y).class ≡ true
      → verdict_between_in profile (map cell (before ++ c ∷ [])) (map cell (y ∷ more)) ≡ end_after (cell c).class
  must_here before c y more ends =
      ap (λ l. verdict_between_in profile l (map cell (y ∷ more))) (map-append cell before (c ∷ []))
      ∙ must_between profile (map cell before) (cell c) (cell y) (map cell more) ends

  pub must_after_all : (before : List ℕ) (c : ℕ) → verdict_between_in profile (map cell (before ++ c ∷ [])) []
      ≡ end_of_text
  must_after_all before c =
      ap (λ l. verdict_between_in profile l []) (map-append cell before (c ∷ []))
      ∙ must_at_end profile (map cell before) (cell c)

  pub must-stands : (c : ℕ) (cs : List ℕ) (y : ℕ) (more : List ℕ) → ends_between (last_in c cs) (cell y).class ≡ true
      → MustStand (c ∷ cs) (y ∷ more)
  must-stands c cs y more ends =
      let e = ends_in c cs in
      ap (λ l. (verdict_between_in profile (map cell l) (map cell (y ∷ more))).kind) e.is
      ∙ ap (λ v. v.kind) (must_here e.front e.last y more (ap (λ k. ends_between k (cell y).class) e.class_is ∙ ends))

  -- the marks of a text at its end
  pub last-marks : (before : List ℕ) (c : ℕ) (cs : List ℕ)
      → marks_behind profile cell before (c ∷ cs) ≡ ended end_of_text (marks_behind profile cell before (c ∷ cs))
  last-marks before c [] = ap (λ v. record { scalar = c; after = v } ∷ []) (must_after_all before c)
  last-marks before c (d ∷ ds) =
      ap (λ l. record {
        scalar = c;
        after = verdict_between_in profile (map cell (before ++ c ∷ [])) (map cell (d ∷ ds));
      } ∷ l)
      (last-marks (before ++ c ∷ []) d ds)

  -- the marks of a text before more, where a line must end between them
  pub ends-marks : (y : ℕ) (more before : List ℕ) (c : ℕ) (cs : List ℕ)
      → ends_between (last_in c cs) (cell y).class ≡ true
      → marks_between before (c ∷ cs) (y ∷ more)
      ≡ ended (end_after (last_in c cs)) (marks_behind profile cell before (c ∷ cs))
  ends-marks y more before c [] ends = ap (λ v. record { scalar = c; after = v } ∷ []) (must_here before c y more ends)
  ends-marks y more before c (d ∷ ds) ends =
      ap (λ v. record { scalar = c; after = v } ∷ marks_between (before ++ c ∷ []) (d ∷ ds) (y ∷ more))
      (same_ahead (map cell (before ++ c ∷ [])) d ds (y ∷ more) (ends_line-between _ _ ends))
      ∙ ap (λ l. record {
        scalar = c;
        after = verdict_between_in profile (map cell (before ++ c ∷ []))
            (map cell (d ∷ ds));
      } ∷ l)
      (ends-marks y more (before ++ c ∷ []) d ds ends)

  -- and of both
  pub marks-joined : (c : ℕ) (cs : List ℕ) (y : ℕ) (more : List ℕ) → ends_between (last_in c cs) (cell y).class ≡ true
      → marks profile cell ((c ∷ cs) ++ y ∷ more) ≡ ended (end_after (last_in c cs)) (marks profile cell (c ∷ cs))
      ++ marks profile cell (y ∷ more)
  marks-joined c cs y more ends =
      marks-split [] (c ∷ cs) (y ∷ more)
      ∙ ap (λ l. l ++ marks_behind profile cell (c ∷ cs) (y ∷ more)) (ends-marks y more [] c cs ends)
      ∙ ap (λ l. ended (end_after (last_in c cs)) (marks profile cell (c ∷ cs)) ++ l)
      (ap (λ l. marks_behind profile cell l (y ∷ more)) (sym (append-nil (c ∷ cs)))
      ∙ marks-behind_line (c ∷ cs) [] (y ∷ more) (must-stands c cs y more ends))

pub must_end_between-last : (profile : Profile) (cell : ℕ → Cell) (c : ℕ) (cs : List ℕ) (y : ℕ) (more : List ℕ)
    → must_end_between cell (c ∷ cs) (y ∷ more) ≡ ends_between (last_in profile cell c cs) (cell y).class
must_end_between-last profile cell c [] y more = refl
must_end_between-last profile cell c (d ∷ ds) y more = must_end_between-last profile cell d ds y more

pub end_before_more-last : (profile : Profile) (cell : ℕ → Cell) (c : ℕ) (cs : List ℕ)
    → end_before_more cell (c ∷ cs) ≡ end_after (last_in profile cell c cs)
end_before_more-last profile cell c [] = refl
end_before_more-last profile cell c (d ∷ ds) = end_before_more-last profile cell d ds
