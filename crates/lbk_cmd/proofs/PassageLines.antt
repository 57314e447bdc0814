-- What is written of a passage is written of its marks.
use Rattle.std.proofs.Common.{◌≡◌, ℕ, List, [], ◌∷◌, ◌++◌, length, chars, sym, ap, ap₂, ◌∙◌}
use Rattle.std.proofs.lemmas.Str.{chars_from_encodes}
use Rattle.lbk_notation.specs.Shown.{passage_line}
use Rattle.lbk_rules.specs.declared.Cell.{Cell}
use Rattle.lbk_values.specs.declared.profile.Profile.{Profile}
use Rattle.lbk_passage.specs.Marks.{Marked, marks, ended, scalars_of, text_of}
use Rattle.lbk_passage.specs.Pieces.{pieces_of}
use Rattle.lbk_passage.specs.State.{State}
use Rattle.lbk_passage.specs.Next.{IsPassage}
use Rattle.lbk_passage.specs.declared.passage.Passage.{Passage}
use Rattle.lbk_passage.specs.Lines.{passage_lines, segmented_passage}
use Rattle.lbk_cmd.specs.Show.{verdicts_of, shown_passage}

pub shown-is : (cell : ℕ → Cell) (profile : Profile) (s : State) (ms : List Marked) (p : Passage) → s.cell ≡ cell → s.profile ≡ profile → IsPassage s ms p
    → passage_line (chars p.text.now) (verdicts_of (ended p.end (marks profile cell (chars p.text.now)))) ++ 10 ∷ [] ≡ shown_passage ms
shown-is cell profile s ms p cell_is profile_is of =
    let scalars_are : chars p.text.now ≡ scalars_of ms = sym (chars_from_encodes (scalars_of ms) p.text.now of.utf8 (sym of.text)) in
    let marks_are : ended p.end (marks profile cell (scalars_of ms)) ≡ ms =
    ap₂ (λ f g. ended p.end (marks f g (scalars_of ms))) (sym profile_is) (sym cell_is) ∙ sym of.alone in
    ap (λ l. passage_line l (verdicts_of (ended p.end (marks profile cell l))) ++ 10 ∷ []) scalars_are
    ∙ ap (λ l. passage_line (scalars_of ms) (verdicts_of l) ++ 10 ∷ []) marks_are

pub segmented-is : (s : State) (ms : List Marked) (p : Passage) (cell : ℕ → Cell) → s.cell ≡ cell → IsPassage s ms p
    → passage_lines p.start (length p.text.now) p.segments.now p.pieces.now ≡ segmented_passage cell p.start ms
segmented-is s ms p cell cell_is of =
    ap (λ l. passage_lines p.start (length l) p.segments.now p.pieces.now) of.text
    ∙ ap₂ (λ segments pieces. passage_lines p.start (length (text_of ms)) segments pieces) of.segments (of.pieces ∙ ap (λ f. pieces_of f (text_of ms)) cell_is)
