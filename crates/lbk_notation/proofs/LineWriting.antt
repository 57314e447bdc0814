-- The marks and scalars of a passage, written one after another.
use Rattle.std.proofs.Common.{◌≡◌, ℕ, ◌+◌, ◌<◌, ◌≤◌, List, [], ◌∷◌, ◌++◌, length, take, drop, get_or, append_assoc, append-nil, refl, sym, ap, ◌∙◌, arith}
use Rattle.std.specs.Char.{encode_utf8}
use Rattle.std.specs.Str.{IsUtf8, chars}
use Rattle.std.proofs.lemmas.List.{drop_more, length-drop, length-map, length-take-le, map-append, nil_from_length, take_more}
use Rattle.std.proofs.lemmas.Str.{chars-nil, chars_past_char}
use Rattle.lbk_notation.specs.declared.marks.Form.{Form}
use Rattle.lbk_notation.specs.declared.marks.Form.TheVariants.{Kinds}
use Rattle.lbk_notation.specs.declared.marks.Mark.{Mark}
use Rattle.lbk_notation.specs.Grammar.{mark_bytes}
use Rattle.lbk_notation.specs.Marked.{mark_of}
use Rattle.lbk_notation.specs.Shown.{marks_of}
use Rattle.lbk_notation.specs.Written.{shown, token, written_after, written_marks}
use Rattle.lbk_rules.specs.declared.Verdict.{Verdict}

-- what is written of some marks, and of those behind them
written_after-append : (form : Form) (scalars : List ℕ) (marks more : List Mark) → length marks ≤ length scalars
    → written_after form scalars (marks ++ more) ≡ written_after form scalars marks ++ written_after form (drop (length marks) scalars) more
written_after-append form [] [] more few = refl
written_after-append form (c ∷ cs) [] more few = refl
written_after-append form [] (m ∷ ms) more few = absurd (omega (arith, few))
written_after-append form (c ∷ cs) (m ∷ ms) more few =
    let mark = mark_bytes (shown form m) in
    let front = written_after form cs ms in
    let behind = written_after form (drop (length ms) cs) more in
    ap (λ l. 32 ∷ (token c ++ (32 ∷ (mark ++ l)))) (written_after-append form cs ms more (omega (arith, few)))
    ∙ sym (ap (λ l. 32 ∷ l) (append_assoc (token c) (32 ∷ (mark ++ front)) behind ∙ ap (λ l. token c ++ (32 ∷ l)) (append_assoc mark front behind)))

pub written_after-none : (form : Form) (scalars : List ℕ) → written_after form scalars [] ≡ []
written_after-none form [] = refl
written_after-none form (c ∷ cs) = refl

-- of some verdicts, and of those behind them
pub written-verdicts : (scalars : List ℕ) (verdicts more : List Verdict) → length verdicts ≤ length scalars
    → written_after Kinds scalars (marks_of (verdicts ++ more))
    ≡ written_after Kinds scalars (marks_of verdicts) ++ written_after Kinds (drop (length verdicts) scalars) (marks_of more)
written-verdicts scalars verdicts more few =
    let many : length (marks_of verdicts) ≡ length verdicts = length-map verdicts (λ (v : Verdict). mark_of v.kind) in
    ap (written_after Kinds scalars) (map-append (λ (v : Verdict). mark_of v.kind) verdicts more)
    ∙ written_after-append Kinds scalars (marks_of verdicts) (marks_of more) (omega (arith, many, few))
    ∙ ap (λ n. written_after Kinds scalars (marks_of verdicts) ++ written_after Kinds (drop n scalars) (marks_of more)) many

-- the next scalar, of which `rest` begins with the bytes
pub next-rest : (scalars rest more : List ℕ) (k c : ℕ) → k < length scalars → IsUtf8 rest → rest ≡ encode_utf8 c ++ more → chars rest ≡ drop k scalars
    → chars more ≡ drop (k + 1) scalars
next-rest scalars rest more k c within utf8 splits left =
    ap (drop 1) (sym (chars_past_char rest more c utf8 splits) ∙ left ∙ drop_more scalars k 0 within)

-- a scalar is left before the last
pub no_end : (scalars rest : List ℕ) (k : ℕ) → k < length scalars → chars rest ≡ drop k scalars → length rest ≡ 0 → ⊥
no_end scalars rest k within left ended =
    let none : chars rest ≡ [] = ap chars (nil_from_length rest ended) ∙ chars-nil in
    omega (arith, within, ap length left, ap length none, length-drop k scalars)

pub next-part : (scalars rest more : List ℕ) (verdicts : List Verdict) (k c : ℕ) (d : Verdict) → k < length verdicts → length verdicts ≤ length scalars
    → IsUtf8 rest → rest ≡ encode_utf8 c ++ more → chars rest ≡ drop k scalars
    → written_after Kinds scalars (marks_of (take k verdicts)) ++ (32 ∷ (token c ++ (32 ∷ mark_bytes (shown Kinds (mark_of (get_or verdicts k d).kind)))))
    ≡ written_after Kinds scalars (marks_of (take (k + 1) verdicts))
next-part scalars rest more verdicts k c d here few utf8 splits left =
    let v = get_or verdicts k d in
    let mark = mark_bytes (shown Kinds (mark_of v.kind)) in
    let front = written_after Kinds scalars (marks_of (take k verdicts)) in
    let so_far : length (take k verdicts) ≡ k = length-take-le k verdicts (omega (arith, here)) in
    let begins : drop (length (take k verdicts)) scalars ≡ c ∷ chars more = ap (λ n. drop n scalars) so_far ∙ sym left ∙ chars_past_char rest more c utf8 splits in
    ap (λ l. front ++ (32 ∷ (token c ++ (32 ∷ l)))) (sym (append-nil mark) ∙ ap (λ l. mark ++ l) (sym (written_after-none Kinds (chars more))))
    ∙ ap (λ l. front ++ written_after Kinds l (marks_of (v ∷ []))) (sym begins)
    ∙ sym (written-verdicts scalars (take k verdicts) (v ∷ []) (omega (arith, so_far, here, few)))
    ∙ ap (λ l. written_after Kinds scalars (marks_of l)) (sym (take_more verdicts k d here))

-- the mark before the first scalar, and what stands behind it
pub written-start : (text old : List ℕ) (verdicts : List Verdict) (d : Verdict) → 0 < length verdicts
    → (old ++ mark_bytes (shown Kinds (mark_of (get_or verdicts 0 d).kind))) ++ written_after Kinds text (marks_of (drop 1 verdicts))
    ≡ old ++ written_marks Kinds text (marks_of verdicts)
written-start text old [] d some = absurd (omega (arith, some))
written-start text old (v ∷ vs) d some = append_assoc old (mark_bytes (shown Kinds (mark_of v.kind))) (written_after Kinds text (marks_of vs))
