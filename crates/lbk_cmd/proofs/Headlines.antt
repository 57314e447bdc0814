-- The passages of a text by the cells of files, joined.
use Rattle.std.proofs.Common.{◌≡◌, ℕ, suc, add-one, List, [], ◌∷◌, ◌++◌, length, map, refl, sym, ap, subst, ◌∙◌}
use Rattle.std.specs.Char.{IsScalar}
use Rattle.std.specs.List.{AllByRecursion, flat_map}
use Rattle.std.proofs.lemmas.List.{length-map}
use Rattle.lbk_ucd.specs.declared.tables.Files.{Files}
use Rattle.lbk_rules.specs.declared.Cell.{Cell}
use Rattle.lbk_values.specs.declared.profile.Profile.{Profile}
use Rattle.lbk_rules.specs.Verdict.{verdict_between_in}
use Rattle.lbk_passage.specs.Marks.{Marked, marks_behind, scalars_of}
use Rattle.lbk_passage.specs.Passages.{cut_after, ends_passage, passages}
use Rattle.lbk_passage.proofs.Together.{passages-breaks, passages-end, passages-marks, passages-only, passages-scalars}
use Rattle.lbk_notation.proofs.Lengths.{says}
use Rattle.lbk_files.specs.Cells.{AreCellsOf, cell_of_files}
use Rattle.lbk_cmd.specs.Headline.{ArePassagesBy, ArePassagesOf, IsReadBack}
use Rattle.lbk_cmd.specs.Show.{verdicts_of}

abbrev AllScalars : List ℕ → Type 0
AllScalars text = AllByRecursion (λ scalar. IsScalar scalar) text

-- all of two lists joined

pub both : {A : Type 0} → (P : A → Type 0) (xs ys : List A) → AllByRecursion P (xs ++ ys) → AllByRecursion P xs × AllByRecursion P ys
both P [] ys all = (tt, all)
both P (x ∷ xs) ys all = let rest = both P xs ys all.1 in ((all.0, rest.0), rest.1)

joined_all : {A : Type 0} → (P : A → Type 0) (xs ys : List A) → AllByRecursion P xs → AllByRecursion P ys → AllByRecursion P (xs ++ ys)
joined_all P [] ys _ all = all
joined_all P (x ∷ xs) ys all more = (all.0, joined_all P xs ys all.1 more)

-- cells that agree on scalar values give a text the same marks

cells-same : (a b : ℕ → Cell) (text : List ℕ) → ((c : ℕ) → IsScalar c → a c ≡ b c) → AllScalars text → map a text ≡ map b text
cells-same a b [] same _ = refl
cells-same a b (c ∷ cs) same all = ap (λ x. x ∷ map a cs) (same c all.0) ∙ ap (λ l. b c ∷ l) (cells-same a b cs same all.1)

marks-same : (profile : Profile) (a b : ℕ → Cell) (before text : List ℕ) → ((c : ℕ) → IsScalar c → a c ≡ b c)
    → AllScalars before → AllScalars text → marks_behind profile a before text ≡ marks_behind profile b before text
marks-same profile a b before [] same _ _ = refl
marks-same profile a b before (c ∷ cs) same all more =
    let so_far = joined_all (λ scalar. IsScalar scalar) before (c ∷ []) all (more.0, tt) in
    ap (λ l. record { scalar = c; after = verdict_between_in profile l (map a cs) } ∷ marks_behind profile a (before ++ c ∷ []) cs)
    (cells-same a b (before ++ c ∷ []) same so_far)
    ∙ ap (λ l. record { scalar = c; after = verdict_between_in profile (map b (before ++ c ∷ [])) l } ∷ marks_behind profile a (before ++ c ∷ []) cs)
    (cells-same a b cs same more.1)
    ∙ ap (λ l. record { scalar = c; after = verdict_between_in profile (map b (before ++ c ∷ [])) (map b cs) } ∷ l)
    (marks-same profile a b (before ++ c ∷ []) cs same so_far more.1)

pub passages-same : (files : Files) (profile : Profile) (cell : ℕ → Cell) (text : List ℕ) → AreCellsOf files cell → AllScalars text
    → passages profile cell text ≡ passages profile (cell_of_files files) text
unfolding passages
passages-same files profile cell text cells all =
    ap (cut_after ends_passage) (marks-same profile cell (cell_of_files files) [] text cells tt all)

-- each passage's line is read back

read_back : (ms : List Marked) → AllScalars (scalars_of ms) → IsReadBack ms
read_back ms all =
    says (scalars_of ms) (verdicts_of ms)
    (ap suc (length-map ms (λ m. m.after) ∙ sym (length-map ms (λ m. m.scalar))) ∙ sym (add-one (length (scalars_of ms)))) all

all_read_back : (ps : List (List Marked)) → AllScalars (flat_map scalars_of ps) → AllByRecursion IsReadBack ps
all_read_back [] _ = tt
all_read_back (ms ∷ ps) all =
    let parts = both (λ scalar. IsScalar scalar) (scalars_of ms) (flat_map scalars_of ps) all in
    (read_back ms parts.0, all_read_back ps parts.1)

pub headline_by : (cell : ℕ → Cell) (profile : Profile) (text : List ℕ) → AllScalars text
    → ArePassagesBy cell profile text (passages profile cell text)
headline_by cell profile text all =
    let joined = passages-scalars profile cell text in
    record {
      joined = joined;
      marked = passages-marks profile cell text;
      cut = passages-end profile cell text;
      broken = passages-breaks profile cell text;
      lines = all_read_back (passages profile cell text) (subst AllScalars (sym joined) all);
    }

pub headline_only_by : (cell : ℕ → Cell) (profile : Profile) (text : List ℕ) (other : List (List Marked))
    → ArePassagesBy cell profile text other → other ≡ passages profile cell text
headline_only_by cell profile text other are = passages-only profile cell text other are.marked are.cut

pub headline : (files : Files) (profile : Profile) (cell : ℕ → Cell) (text : List ℕ) → AreCellsOf files cell
    → AllScalars text → ArePassagesOf files profile text (passages profile cell text)
headline files profile cell text cells all =
    subst (ArePassagesOf files profile text) (sym (passages-same files profile cell text cells all))
    (headline_by (cell_of_files files) profile text all)

pub headline_only : (files : Files) (profile : Profile) (cell : ℕ → Cell) (text : List ℕ) (other : List (List Marked))
    → AreCellsOf files cell → AllScalars text → ArePassagesOf files profile text other → other ≡ passages profile cell text
headline_only files profile cell text other cells all are =
    headline_only_by (cell_of_files files) profile text other are ∙ sym (passages-same files profile cell text cells all)
