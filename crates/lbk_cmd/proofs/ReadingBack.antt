-- Lines that were written of passages, cut at their line ends.
use Rattle.std.proofs.Common.{◌≡◌, ℕ, ◌+◌, List, [], ◌∷◌, ◌++◌, length, map, refl, sym, ap, ap₂, subst, ◌∙◌, arith, append_assoc, append-nil}
use Rattle.std.specs.List.{flat_map}
use Rattle.std.proofs.lemmas.List.{length-map}
use Rattle.lbk_passage.specs.Marks.{Marked, scalars_of, text_of}
use Rattle.lbk_notation.specs.TestLine.{Line}
use Rattle.lbk_notation.specs.Stream.{HasNoLineEnd}
use Rattle.lbk_notation.proofs.Lengths.{one_line}
use Rattle.lbk_cmd.specs.Broken.{said}
use Rattle.lbk_cmd.specs.ReadBack.{AreReadable, AreShown, IsReadable, Say, SayOf, line_of}
use Rattle.lbk_cmd.specs.Show.{shown_passage, verdicts_of}
use Rattle.lbk_cmd.specs.Texts.{lines_from}

pub one_more : (ms : List Marked) → length (verdicts_of ms) ≡ length (scalars_of ms) + 1
one_more ms = omega (arith, length-map ms (λ (m : Marked). m.after), length-map ms (λ (m : Marked). m.scalar))

-- the lines of passages, wherever the first of them begins
pub lines-joined : (start : ℕ) (passages : List (List Marked))
    → lines_from (λ start ms. shown_passage ms) start passages ≡ flat_map shown_passage passages
lines-joined start [] = refl
lines-joined start (ms ∷ passages) = ap (λ l. shown_passage ms ++ l) (lines-joined (start + length (text_of ms)) passages)

-- bytes up to their first line end
apart : (xs ys more more' : List ℕ) → HasNoLineEnd xs → HasNoLineEnd ys → xs ++ 10 ∷ more ≡ ys ++ 10 ∷ more' → (xs ≡ ys) × (more ≡ more')
apart [] [] more more' _ _ e = (refl, let same : more ≡ more' = cc in same)
apart [] (y ∷ ys) more more' _ none e = absurd (none.0 (let same : y ≡ 10 = cc in same))
apart (x ∷ xs) [] more more' none _ e = absurd (none.0 (let same : x ≡ 10 = cc in same))
apart (x ∷ xs) (y ∷ ys) more more' none none' e =
    let first : x ≡ y = cc in
    let behind : xs ++ 10 ∷ more ≡ ys ++ 10 ∷ more' = cc in
    let rest = apart xs ys more more' none.1 none'.1 behind in
    (ap₂ (λ z zs. z ∷ zs) first rest.0, rest.1)

has_line_end : (xs ys : List ℕ) → HasNoLineEnd (xs ++ 10 ∷ ys) → ⊥
has_line_end [] ys none = none.0 refl
has_line_end (x ∷ xs) ys none = has_line_end xs ys none.1

some_bytes : (xs ys : List ℕ) → xs ++ 10 ∷ ys ≡ [] → ⊥
some_bytes [] ys e = (let no : ⊥ = cc in no)
some_bytes (x ∷ xs) ys e = (let no : ⊥ = cc in no)

-- a first line, and what stands behind it, of the lines of passages
pub record IsFirst (line behind : List ℕ) (passages : List (List Marked)) : Type 0 where
  pub first : List Marked
  pub others : List (List Marked)
  pub parts : passages ≡ first ∷ others
  pub is : line ≡ line_of first
  pub readable : IsReadable first
  pub are : AreShown behind others

pub first_of : (text line behind : List ℕ) (passages : List (List Marked)) → text ≡ line ++ 10 ∷ behind → HasNoLineEnd line
    → AreShown text passages → IsFirst line behind passages
first_of text line behind [] splits none are = absurd (some_bytes line behind (sym splits ∙ are.lines))
first_of text line behind (ms ∷ passages) splits none are =
    let sides = apart line (line_of ms) behind (flat_map shown_passage passages) none (one_line (scalars_of ms) (verdicts_of ms))
    (sym splits ∙ are.lines ∙ append_assoc (line_of ms) (10 ∷ []) (flat_map shown_passage passages)) in
    record {
      first = ms;
      others = passages;
      parts = refl;
      is = sides.0;
      readable = are.readable.0;
      are = record { lines = sides.1; readable = are.readable.1 };
    }

none_left : (text : List ℕ) (passages : List (List Marked)) → HasNoLineEnd text → AreShown text passages → passages ≡ []
none_left text [] none are = refl
none_left text (ms ∷ passages) none are =
    absurd (has_line_end (line_of ms) (flat_map shown_passage passages)
    (subst HasNoLineEnd (are.lines ∙ append_assoc (line_of ms) (10 ∷ []) (flat_map shown_passage passages)) none))

-- of the lines of a text some were read, and the rest is to come
pub record ReadsOn (text rest : List ℕ) (lines : List Line) : Type 0 where
  pub on : (passages : List (List Marked)) → AreShown text passages
      → (left : List (List Marked)) × AreShown rest left × (lines ++ map said left ≡ map said passages)

pub ReadsOn-start : (text : List ℕ) (lines : List Line) → lines ≡ [] → ReadsOn text text lines
ReadsOn-start text lines none = record { on = λ passages are. (passages, are, ap (λ l. l ++ map said passages) none) }

module _ (text rest : List ℕ) (lines : List Line) (r : ReadsOn text rest lines) where
  pub ReadsOn-step : (line behind : List ℕ) (read : Line) (lines' : List Line) → rest ≡ line ++ 10 ∷ behind → HasNoLineEnd line
      → SayOf line read → lines' ≡ lines ++ read ∷ [] → ReadsOn text behind lines'
  ReadsOn-step line behind read lines' splits none says pushed = record {
    on = λ passages are.
        (let so_far = r.on passages are in
        let first = first_of rest line behind so_far.0 splits none so_far.1 in (
          first.others,
          first.are,
          ap (λ l. l ++ map said first.others) pushed ∙ append_assoc lines (read ∷ []) (map said first.others)
              ∙ ap (λ l. lines ++ (l ∷ map said first.others)) (says first.first first.is first.readable)
              ∙ ap (λ ps. lines ++ map said ps) (sym first.parts) ∙ so_far.2,
        ));
  }

  pub ReadsOn-end : HasNoLineEnd rest → Say text lines
  ReadsOn-end none = λ passages are.
      (let so_far = r.on passages are in
      sym (append-nil lines) ∙ ap (λ ps. lines ++ map said ps) (sym (none_left rest so_far.0 none so_far.1)) ∙ so_far.2)

  -- the first of the rest is the line of a passage
  pub ReadsOn-readable : (line behind : List ℕ) → rest ≡ line ++ 10 ∷ behind → HasNoLineEnd line → AreReadable text
      → (ms : List Marked) × (line ≡ line_of ms) × IsReadable ms
  ReadsOn-readable line behind splits none are =
      let so_far = r.on are.0 are.1 in
      let first = first_of rest line behind so_far.0 splits none so_far.1 in
      (first.first, first.is, first.readable)
