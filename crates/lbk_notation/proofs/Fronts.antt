-- What is written after a mark.
use Rattle.std.proofs.Common.{◌≡◌, ℕ, ◌+◌, ◌<◌, List, ◌∷◌, ◌++◌, length, drop, get_or, sym, ap, ◌∙◌, append_assoc}
use Rattle.std.proofs.lemmas.List.{drop_more}
use Rattle.lbk_notation.specs.declared.marks.Form.{Form}
use Rattle.lbk_notation.specs.declared.marks.Mark.{Mark}
use Rattle.lbk_notation.specs.Grammar.{mark_bytes}
use Rattle.lbk_notation.specs.Written.{shown, token, written_after}

-- what is written after a mark begins with the next scalar and the mark after it
pub written_after-more : (form : Form) (scalars : List ℕ) (marks rest : List Mark) (k s : ℕ) (m : Mark) → k < length scalars → s ≡ get_or scalars k s
    → marks ≡ m ∷ rest → (32 ∷ (token s ++ (32 ∷ mark_bytes (shown form m)))) ++ written_after form (drop (k + 1) scalars) rest
    ≡ written_after form (drop k scalars) marks
written_after-more form scalars marks rest k s m within here next =
    let front : (32 ∷ (token s ++ (32 ∷ mark_bytes (shown form m)))) ++ written_after form (drop (k + 1) scalars) rest
    ≡ written_after form (s ∷ drop (k + 1) scalars) (m ∷ rest) = simp append_assoc in
    front ∙ ap (λ x. written_after form (x ∷ drop (k + 1) scalars) (m ∷ rest)) here
    ∙ ap (λ l. written_after form l (m ∷ rest)) (sym (drop_more scalars k s within)) ∙ ap (written_after form (drop k scalars)) (sym next)
