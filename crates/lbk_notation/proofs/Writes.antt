-- What is written is a line of the grammar.
use Rattle.std.proofs.Common.{◌≡◌, ℕ, suc, ◌+◌, ◌<◌, List, [], ◌∷◌, ◌++◌, length, map, get_or, Some, refl, ap, sym, subst, ◌∙◌, arith, append_assoc, append-nil}
use Rattle.std.specs.Char.{IsScalar}
use Rattle.std.specs.List.{AllByRecursion}
use Rattle.lbk_notation.specs.declared.marks.Form.{Form}
use Rattle.lbk_notation.specs.declared.marks.Form.TheVariants.{Plain, Kinds}
use Rattle.lbk_notation.specs.declared.marks.Mark.{Mark}
use Rattle.lbk_notation.specs.declared.marks.Mark.TheVariants.{Must}
use Rattle.lbk_notation.specs.Grammar.{Has, mark_bytes, IsAfter, last, more, IsLine, line}
use Rattle.lbk_notation.specs.TestLine.{Line}
use Rattle.lbk_notation.specs.Written.{shown, shown_line, digits_of, token, written_after, written_marks}
use Rattle.lbk_notation.proofs.Tokens.{digits-IsToken, number-digits}

abbrev pub AllScalars : List ℕ → Type 0
AllScalars scalars = AllByRecursion (λ scalar. IsScalar scalar) scalars

pub all_scalars : (scalars : List ℕ) → ((k : ℕ) → k < length scalars → IsScalar (get_or scalars k 0)) → AllScalars scalars
all_scalars [] each = tt
all_scalars (scalar ∷ scalars) each = (each 0 (omega arith), all_scalars scalars (λ k lt. each (suc k) (omega arith)))

has_shown : (form : Form) (mark : Mark) → Has form (shown form mark)
has_shown Kinds Must = tt
has_shown Kinds _ = tt
has_shown Plain Must = tt
has_shown Plain _ = tt

regroup : (token mark rest end : List ℕ) → (32 ∷ (token ++ (32 ∷ (mark ++ rest)))) ++ end ≡ 32 ∷ (token ++ (32 ∷ (mark ++ (rest ++ end))))
regroup token mark rest end =
    ap (λ l. 32 ∷ l) (append_assoc token (32 ∷ (mark ++ rest)) end ∙ ap (λ l. token ++ (32 ∷ l)) (append_assoc mark rest end))

-- what is written behind a mark may follow it, with any end behind it
pub written-IsAfter : (form : Form) (scalars : List ℕ) (marks : List Mark) (end : List ℕ) → length marks ≡ length scalars → AllScalars scalars
    → IsAfter form [] [] end → IsAfter form scalars (map (shown form) marks) (written_after form scalars marks ++ end)
written-IsAfter form [] [] end e all ended = ended
written-IsAfter form [] (mark ∷ marks) end e all ended = absurd (omega arith)
written-IsAfter form (scalar ∷ scalars) [] end e all ended = absurd (omega arith)
written-IsAfter form (scalar ∷ scalars) (mark ∷ marks) end e all ended =
    let rest : length marks ≡ length scalars = omega arith in
    let behind = more (32 ∷ []) (digits_of scalar) (32 ∷ []) (shown form mark) (written_after form scalars marks ++ end) scalars (map (shown form) marks)
    (refl, refl) (digits-IsToken scalar all.0) (refl, refl) (has_shown form mark) (written-IsAfter form scalars marks end rest all.1 ended) in
    subst (λ bytes. IsAfter form (scalar ∷ scalars) (shown form mark ∷ map (shown form) marks) bytes)
    (sym (regroup (token scalar) (mark_bytes (shown form mark)) (written_after form scalars marks) end))
    (subst (λ number. IsAfter form (number ∷ scalars) (shown form mark ∷ map (shown form) marks)
    (32 ∷ (token scalar ++ (32 ∷ (mark_bytes (shown form mark) ++ (written_after form scalars marks ++ end))))))
    (number-digits scalar all.0) behind)

pub written-IsLine : (form : Form) (scalars : List ℕ) (marks : List Mark) (end : List ℕ) → length marks ≡ length scalars + 1 → AllScalars scalars
    → IsAfter form [] [] end
    → IsLine form (written_marks form scalars marks ++ end) (Some (shown_line form (record { scalars = scalars; marks = marks })))
written-IsLine form scalars [] end e all ended = absurd (omega arith)
written-IsLine form scalars (mark ∷ marks) end e all ended =
    let rest : length marks ≡ length scalars = omega arith in
    rw append_assoc
    (line [] (shown form mark) (written_after form scalars marks ++ end) scalars (map (shown form) marks) refl (has_shown form mark)
    (written-IsAfter form scalars marks end rest all ended))

-- what is written, with nothing behind it
pub written-alone : (form : Form) (scalars : List ℕ) (marks : List Mark) → length marks ≡ length scalars + 1 → AllScalars scalars
    → IsLine form (written_marks form scalars marks) (Some (shown_line form (record { scalars = scalars; marks = marks })))
written-alone form scalars marks e all =
    subst (λ bytes. IsLine form bytes (Some (shown_line form (record { scalars = scalars; marks = marks }))))
    (append-nil (written_marks form scalars marks)) (written-IsLine form scalars marks [] e all (last [] [] refl tt))

-- bytes that were written for a line
pub written_from : (form : Form) (line : Line) (scalars : List ℕ) (marks : List Mark) (bytes : List ℕ) → scalars ≡ line.scalars → marks ≡ line.marks
    → length line.marks ≡ length line.scalars + 1 → ((k : ℕ) → k < length scalars → IsScalar (get_or scalars k 0))
    → bytes ≡ written_marks form scalars marks → IsLine form bytes (Some (shown_line form line))
written_from form said scalars marks bytes e f many each is =
    let all : AllScalars said.scalars = subst AllScalars e (all_scalars scalars each) in
    rw (is, e, f) (written-alone form said.scalars said.marks many all)
