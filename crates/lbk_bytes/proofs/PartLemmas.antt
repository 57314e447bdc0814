-- The breaks of a part of a text, from any byte of the text on.
use Rattle.std.proofs.Common.{◌≡◌, ℕ, ◌+◌, ◌-◌, Bool, true, false, cond, List, [], ◌∷◌, ◌++◌, length, map, take, append-nil, append_assoc, length-append, refl, sym, ap, ◌∙◌, arith}
use Rattle.std.proofs.lemmas.List.{map-append, take_at}
use Rattle.bstr.specs.Utf8.{Decoded, or_replacement, pieces}
use Rattle.bstr.proofs.lemmas.PieceLemmas.{pieces-sizes, sizes}
use Rattle.lbk_rules.specs.declared.Break.{Break}
use Rattle.lbk_rules.specs.declared.Cell.{Cell}
use Rattle.lbk_rules.specs.declared.Verdict.{Verdict}
use Rattle.lbk_values.specs.declared.profile.Profile.{Profile}
use Rattle.lbk_rules.specs.Breaks.{break_by, is_no}
use Rattle.lbk_rules.specs.Ends.{end_after, end_of_text, ends_line}
use Rattle.lbk_rules.specs.Joins.{moved}
use Rattle.lbk_rules.specs.Marks.{marks}
use Rattle.lbk_rules.specs.Verdict.{verdict_between_in}
use Rattle.lbk_rules.proofs.EndLemmas.{must_at_end, start_of_text}
use Rattle.lbk_bytes.specs.Bytes.{breaks_after, breaks_of_part, end_in, of_part, open_end, with_break}
use Rattle.lbk_bytes.specs.Reached.{onward, onward_to, scalars_of}
use Rattle.lbk_bytes.proofs.ReachedLemmas.{onward-start}

-- Places

with_break-moved : (by at : ℕ) (verdict : Verdict) (more : List Break) → map (moved by) (with_break at verdict more) ≡ with_break (by + at) verdict (map (moved by) more)
with_break-moved by at verdict more =
    elim (is_no verdict.kind)
    as (λ b. map (moved by) (cond b more (break_by at verdict ∷ more)) ≡ cond b (map (moved by) more) (break_by (by + at) verdict ∷ map (moved by) more))
    [ true ↦ refl | false ↦ refl ]

pub end-moved : (goes_on : Bool) (profile : Profile) (cell : ℕ → Cell) (taken : List ℕ) (by at : ℕ)
    → map (moved by) (end_in goes_on profile cell taken at) ≡ end_in goes_on profile cell taken (by + at)
end-moved false profile cell taken by at = with_break-moved by at (verdict_between_in profile (map cell taken) []) []
end-moved true profile cell [] by at = refl
end-moved true profile cell (c ∷ []) by at =
    elim (ends_line (cell c).class)
    as (λ b. map (moved by) (cond b (break_by at (end_after (cell c).class) ∷ []) []) ≡ cond b (break_by (by + at) (end_after (cell c).class) ∷ []) [])
    [ true ↦ refl | false ↦ refl ]
end-moved true profile cell (c ∷ d ∷ ds) by at = end-moved true profile cell (d ∷ ds) by at

pub onward-moved : (goes_on : Bool) (profile : Profile) (cell : ℕ → Cell) (taken : List ℕ) (by at : ℕ) (ps : List Decoded)
    → map (moved by) (onward_to (end_in goes_on) profile cell taken at ps) ≡ onward_to (end_in goes_on) profile cell taken (by + at) ps
onward-moved goes_on profile cell taken by at [] = end-moved goes_on profile cell taken by at
onward-moved goes_on profile cell taken by at (p ∷ ps) =
    let on = taken ++ or_replacement p.char ∷ [] in
    let verdict = verdict_between_in profile (map cell taken) (map cell (scalars_of (p ∷ ps))) in
    let place : by + (at + p.size) ≡ by + at + p.size = omega arith in
    with_break-moved by at verdict (onward_to (end_in goes_on) profile cell on (at + p.size) ps)
    ∙ ap (with_break (by + at) verdict) (onward-moved goes_on profile cell on by (at + p.size) ps)
    ∙ ap (λ n. with_break (by + at) verdict (onward_to (end_in goes_on) profile cell on n ps)) place

-- The end

with_break-joined : (at : ℕ) (verdict : Verdict) (xs ys : List Break) → with_break at verdict (xs ++ ys) ≡ with_break at verdict xs ++ ys
with_break-joined at verdict xs ys =
    elim (is_no verdict.kind)
    as (λ b. cond b (xs ++ ys) (break_by at verdict ∷ (xs ++ ys)) ≡ cond b xs (break_by at verdict ∷ xs) ++ ys)
    [ true ↦ refl | false ↦ refl ]

-- the breaks from a byte on, and what comes at the end
record Ends (profile : Profile) (cell : ℕ → Cell) (before : List ℕ) (at : ℕ) (ps : List Decoded) : Type 0 where
  front : List Break
  closed : onward profile cell before at ps ≡ front ++ break_by (at + sizes ps) end_of_text ∷ []
  opened : onward_to open_end profile cell before at ps ≡ front ++ open_end profile cell (before ++ scalars_of ps) (at + sizes ps)

ends : (profile : Profile) (cell : ℕ → Cell) (before : List ℕ) (c at : ℕ) (ps : List Decoded) → Ends profile cell (before ++ c ∷ []) at ps
unfolding sizes
ends profile cell before c at [] =
    let here : at ≡ at + 0 = omega arith in
    record {
      front = [];
      closed = ap (λ l. with_break at (verdict_between_in profile l []) []) (map-append cell before (c ∷ []))
          ∙ ap (λ (v : Verdict). with_break at v []) (must_at_end profile (map cell before) (cell c)) ∙ ap (λ n. break_by n end_of_text ∷ []) here;
      opened = ap (λ n. open_end profile cell (before ++ c ∷ []) n) here ∙ ap (λ l. open_end profile cell l (at + 0)) (sym (append-nil (before ++ c ∷ [])));
    }
ends profile cell before c at (q ∷ qs) =
    let on = before ++ c ∷ [] in
    let d = or_replacement q.char in
    let verdict = verdict_between_in profile (map cell on) (map cell (scalars_of (q ∷ qs))) in
    let rest = ends profile cell on d (at + q.size) qs in
    let place : at + q.size + sizes qs ≡ at + (q.size + sizes qs) = omega arith in
    let end = break_by (at + q.size + sizes qs) end_of_text ∷ [] in
    record {
      front = with_break at verdict rest.front;
      closed = ap (with_break at verdict) rest.closed ∙ with_break-joined at verdict rest.front end
          ∙ ap (λ n. with_break at verdict rest.front ++ break_by n end_of_text ∷ []) place;
      opened = ap (with_break at verdict) rest.opened
          ∙ with_break-joined at verdict rest.front (open_end profile cell ((on ++ d ∷ []) ++ scalars_of qs) (at + q.size + sizes qs))
          ∙ ap (λ n. with_break at verdict rest.front ++ open_end profile cell ((on ++ d ∷ []) ++ scalars_of qs) n) place
          ∙ ap (λ l. with_break at verdict rest.front ++ open_end profile cell l (at + (q.size + sizes qs))) (append_assoc on (d ∷ []) (scalars_of qs));
    }

pub without-last : (front : List Break) (last : Break) → take (length (front ++ last ∷ []) - 1) (front ++ last ∷ []) ≡ front
without-last front last =
    let long = length-append front (last ∷ []) in
    take_at front (last ∷ []) (length (front ++ last ∷ []) - 1) (omega arith)

open-start : (profile : Profile) (cell : ℕ → Cell) (ps : List Decoded)
    → take (length (onward profile cell [] 0 ps) - 1) (onward profile cell [] 0 ps) ++ open_end profile cell (scalars_of ps) (sizes ps)
    ≡ onward_to open_end profile cell [] 0 ps
unfolding sizes
open-start profile cell [] =
    ap (λ (v : Verdict). take (length (with_break 0 v []) - 1) (with_break 0 v []) ++ []) (start_of_text profile [])
open-start profile cell (p ∷ ps) =
    let c = or_replacement p.char in
    let start = start_of_text profile (map cell (scalars_of (p ∷ ps))) in
    let e = ends profile cell [] c (0 + p.size) ps in
    let closed : onward profile cell [] 0 (p ∷ ps) ≡ e.front ++ break_by (0 + p.size + sizes ps) end_of_text ∷ [] =
    ap (λ (v : Verdict). with_break 0 v (onward profile cell (c ∷ []) (0 + p.size) ps)) start ∙ e.closed in
    let place : p.size + sizes ps ≡ 0 + p.size + sizes ps = omega arith in
    ap (λ l. take (length l - 1) l ++ open_end profile cell (scalars_of (p ∷ ps)) (p.size + sizes ps)) closed
    ∙ ap (λ l. l ++ open_end profile cell (scalars_of (p ∷ ps)) (p.size + sizes ps)) (without-last e.front (break_by (0 + p.size + sizes ps) end_of_text))
    ∙ ap (λ n. e.front ++ open_end profile cell (scalars_of (p ∷ ps)) n) place
    ∙ sym (ap (λ (v : Verdict). with_break 0 v (onward_to open_end profile cell (c ∷ []) (0 + p.size) ps)) start ∙ e.opened)

part-start : (goes_on : Bool) (profile : Profile) (cell : ℕ → Cell) (ps : List Decoded) (size : ℕ) → size ≡ sizes ps
    → of_part goes_on (breaks_after 0 ps (marks profile cell (scalars_of ps))) (open_end profile cell (scalars_of ps) size)
    ≡ onward_to (end_in goes_on) profile cell [] 0 ps
part-start false profile cell ps size same = onward-start profile cell ps
part-start true profile cell ps size same =
    ap (λ l. take (length l - 1) l ++ open_end profile cell (scalars_of ps) size) (onward-start profile cell ps)
    ∙ ap (λ n. take (length (onward profile cell [] 0 ps) - 1) (onward profile cell [] 0 ps) ++ open_end profile cell (scalars_of ps) n) same
    ∙ open-start profile cell ps

-- the breaks of a part that has these pieces, at their places in the text
pub pieces-onward : (goes_on : Bool) (profile : Profile) (cell : ℕ → Cell) (at : ℕ) (ps : List Decoded) (size : ℕ) → size ≡ sizes ps
    → map (moved at) (of_part goes_on (breaks_after 0 ps (marks profile cell (scalars_of ps))) (open_end profile cell (scalars_of ps) size))
    ≡ onward_to (end_in goes_on) profile cell [] at ps
pieces-onward goes_on profile cell at ps size same =
    let place : at + 0 ≡ at = omega arith in
    ap (map (moved at)) (part-start goes_on profile cell ps size same) ∙ onward-moved goes_on profile cell [] at 0 ps
    ∙ ap (λ n. onward_to (end_in goes_on) profile cell [] n ps) place

-- of bytes
pub part-onward : (goes_on : Bool) (profile : Profile) (cell : ℕ → Cell) (at : ℕ) (text : List ℕ)
    → map (moved at) (breaks_of_part goes_on profile cell text) ≡ onward_to (end_in goes_on) profile cell [] at (pieces text)
part-onward goes_on profile cell at text =
    let whole = pieces-sizes (length text) text (omega arith) in
    pieces-onward goes_on profile cell at (pieces text) (length text) (sym whole)
