-- What is written of the parts of a text, joined.
use Rattle.std.proofs.Common.{◌≡◌, ℕ, ◌+◌, true, List, [], ◌∷◌, ◌++◌, length, encode_utf8, encode_utf8_all, refl, sym, ap, ap₂, ◌∙◌, append-nil}
use Rattle.std.specs.List.{flat_map}
use Rattle.lbk_rules.specs.declared.Cell.{Cell}
use Rattle.lbk_rules.specs.declared.Kind.TheVariants.{Must}
use Rattle.lbk_rules.specs.declared.Verdict.{Verdict}
use Rattle.lbk_values.specs.declared.profile.Profile.{Profile}
use Rattle.lbk_rules.proofs.JoinLemmas.{end_before_more-must, joined-parts}
use Rattle.lbk_rules.proofs.MarkLemmas.{scalars-ended}
use Rattle.lbk_passage.specs.Joins.{AreParts, end_before_more, of_parts}
use Rattle.lbk_passage.specs.Laws.{EndsOnce}
use Rattle.lbk_passage.specs.Marks.{Marked, ended, text_of}
use Rattle.lbk_passage.specs.Parts.{of_passages, passages_in}
use Rattle.lbk_passage.specs.Passages.{passages}
use Rattle.lbk_passage.proofs.Joining.{joins-passages, of_passages-with_last}
use Rattle.lbk_passage.proofs.Marking.{is_must-kind}
use Rattle.lbk_passage.proofs.Together.{passages-end}
use Rattle.lbk_cmd.specs.Mark.{missing_line_end, sign, signed, signed_passage}
use Rattle.lbk_cmd.specs.Parts.{lines_in}
use Rattle.lbk_cmd.specs.Texts.{lines_from, signed_text}

lines-of_passages : (lines : ℕ → List Marked → List ℕ) (at : ℕ) (ps : List (List Marked)) → lines_from lines at ps ≡ of_passages lines at ps
lines-of_passages lines at [] = refl
lines-of_passages lines at (ms ∷ ps) = ap (λ l. lines at ms ++ l) (lines-of_passages lines (at + length (text_of ms)) ps)

pub joined-lines : (lines : ℕ → List Marked → List ℕ) (profile : Profile) (cell : ℕ → Cell) (parts : List (List ℕ)) → AreParts cell parts
    → lines_from lines 0 (passages profile cell (flat_map (λ part. part) parts)) ≡ of_parts (lines_in lines profile cell) 0 parts
unfolding passages
joined-lines lines profile cell parts are =
    joined-parts cell (lines_in lines profile cell)
    (λ at first second ends.
    lines-of_passages lines at (passages profile cell (first ++ second))
    ∙ joins-passages profile cell lines at first second ends
    ∙ sym (ap₂ (λ a b. a ++ b) (lines-of_passages lines at (passages_in profile cell true first)) (lines-of_passages lines (at + length (encode_utf8_all first)) (passages profile cell second))))
    (λ at. refl) 0 parts are

-- `mark` writes the same, whether another part follows

signed-ended : (mark : List ℕ) (v : Verdict) (ms : List Marked) → v.kind ≡ Must → EndsOnce ms
    → flat_map (signed mark) (ended v ms) ≡ flat_map (signed mark) ms
signed-ended mark v [] must ends = refl
signed-ended mark v (m ∷ []) must ends =
    ap (λ k. (encode_utf8 m.scalar ++ sign mark k) ++ []) (must ∙ sym (is_must-kind m.after.kind ends))
signed-ended mark v (m ∷ n ∷ ms) must ends = ap (λ l. signed mark m ++ l) (signed-ended mark v (n ∷ ms) must ends.1)

module _ (mark : List ℕ) (profile : Profile) (cell : ℕ → Cell) where
  abbrev signed_lines : ℕ → List Marked → List ℕ
  signed_lines start ms = signed_passage mark cell ms

  signed-in : (at : ℕ) (part : List ℕ) → lines_in signed_lines profile cell at true part ≡ lines_from signed_lines at (passages profile cell part)
  unfolding passages
  signed-in at [] = refl
  signed-in at (c ∷ cs) =
      let end = end_before_more cell (c ∷ cs) in
      lines-of_passages signed_lines at (passages_in profile cell true (c ∷ cs))
      ∙ of_passages-with_last signed_lines end
      (λ start ms ends. ap₂ (λ text scalars. text ++ missing_line_end cell scalars)
      (signed-ended mark end ms (ap (λ v. v.kind) (end_before_more-must cell c cs)) ends) (scalars-ended end ms))
      at (passages profile cell (c ∷ cs)) (passages-end profile cell (c ∷ cs))
      ∙ sym (lines-of_passages signed_lines at (passages profile cell (c ∷ cs)))

  -- nor does it matter where it begins
  signed-moved : (at : ℕ) (ps : List (List Marked)) → lines_from signed_lines at ps ≡ signed_text mark cell ps
  signed-moved at ps = by at 0 ps
    where
      by : (at there : ℕ) (ps : List (List Marked)) → lines_from signed_lines at ps ≡ lines_from signed_lines there ps
      by at there [] = refl
      by at there (ms ∷ ps) = ap (λ l. signed_passage mark cell ms ++ l) (by (at + length (text_of ms)) (there + length (text_of ms)) ps)

  signed-parts : (at : ℕ) (parts : List (List ℕ)) → of_parts (lines_in signed_lines profile cell) at parts ≡ flat_map (λ part. signed_text mark cell (passages profile cell part)) parts
  signed-parts at [] = refl
  signed-parts at (part ∷ []) = signed-moved at (passages profile cell part) ∙ sym (append-nil (signed_text mark cell (passages profile cell part)))
  signed-parts at (part ∷ next ∷ parts) =
      ap₂ (λ a b. a ++ b) (signed-in at part ∙ signed-moved at (passages profile cell part)) (signed-parts (at + length (encode_utf8_all part)) (next ∷ parts))

  pub joined-signed : (parts : List (List ℕ)) → AreParts cell parts
      → signed_text mark cell (passages profile cell (flat_map (λ part. part) parts)) ≡ flat_map (λ part. signed_text mark cell (passages profile cell part)) parts
  joined-signed parts are = joined-lines signed_lines profile cell parts are ∙ signed-parts 0 parts
