-- The verdicts of a passage, as a machine answers them one after another.
use Rattle.std.proofs.Common.{◌≡◌, ℕ, ◌+◌, ◌^◌, ◌<◌, ◌≤◌, Bool, true, false, cond, Option, Some, None, List, [], ◌∷◌, ◌++◌, map, length, reverse, set, encode_utf8_all, append_assoc, refl, sym, ap, subst, ◌∙◌, arith}
use Rattle.std.specs.Char.{encode_utf8}
use Rattle.std.specs.Option.{ForSome}
use Rattle.std.specs.Str.{IsUtf8, chars}
use Rattle.std.proofs.lemmas.Bool.{false≢true}
use Rattle.std.proofs.lemmas.List.{set-append_left, length-append, length-map, length-set, length_push, map-append, nil_from_length}
use Rattle.std.proofs.lemmas.Str.{IsUtf8-past_char, chars-nil, chars_past_char, encodes-chars, len_utf8_bounds, length-encode}
use Rattle.std.proofs.Math.Seq.{set-append_seam}
use Rattle.lbk_rules.specs.declared.Cell.{Cell}
use Rattle.lbk_values.specs.declared.profile.Profile.{Profile}
use Rattle.lbk_rules.specs.declared.Verdict.{Verdict}
use Rattle.lbk_rules.specs.Answers.{written}
use Rattle.lbk_rules.specs.Facts.{heads}
use Rattle.lbk_rules.specs.Held.{is_held, unanswered_before, answer_at, late_at, now_at}
use Rattle.lbk_rules.specs.Verdict.{verdict_between_in}
use Rattle.lbk_rules.proofs.CoverLemmas.{answer-snoc, answer_at-below, held-heads}
use Rattle.lbk_rules.proofs.EndLemmas.{start_of_text}
use Rattle.lbk_passage.specs.Marks.{Marked, ended, marks, marks_behind}
use Rattle.lbk_cmd.specs.Deciding.{placed}
use Rattle.lbk_cmd.specs.Show.{at_start, verdicts_of}

-- the verdicts from a position on, between the scalars before it and these; `end` after the last
abbrev pub onward : Profile → (ℕ → Cell) → Verdict → List ℕ → List ℕ → List Verdict
onward profile cell end before [] = end ∷ []
onward profile cell end before (c ∷ cs) =
    verdict_between_in profile (map cell before) (map cell (c ∷ cs)) ∷ onward profile cell end (before ++ c ∷ []) cs

onward-marks : (profile : Profile) (cell : ℕ → Cell) (end : Verdict) (before : List ℕ) (c : ℕ) (cs : List ℕ)
    → map (λ m. m.after) (ended end (marks_behind profile cell before (c ∷ cs))) ≡ onward profile cell end (before ++ c ∷ []) cs
onward-marks profile cell end before c [] = refl
onward-marks profile cell end before c (d ∷ ds) =
    ap (λ l. verdict_between_in profile (map cell (before ++ c ∷ [])) (map cell (d ∷ ds)) ∷ l)
    (onward-marks profile cell end (before ++ c ∷ []) d ds)

-- at the start of a text that is not empty
onward-start : (profile : Profile) (cell : ℕ → Cell) (end : Verdict) (c : ℕ) (cs : List ℕ)
    → onward profile cell end [] (c ∷ cs) ≡ verdicts_of (ended end (marks profile cell (c ∷ cs)))
onward-start profile cell end c cs =
    ap (λ v. v ∷ onward profile cell end (c ∷ []) cs) (start_of_text profile (map cell (c ∷ cs)))
    ∙ ap (λ l. at_start ∷ l) (sym (onward-marks profile cell end [] c cs))

pub length-written : (late : Option (ℕ × Verdict)) (list : List Verdict) → length (written late list) ≡ length list
length-written None list = refl
length-written (Some answer) list = length-set list answer.0 answer.1

-- an answer that comes before what was put behind
written-push : (late : Option (ℕ × Verdict)) (list : List Verdict) (v : Verdict) → ForSome late (λ answer. answer.0 < length list)
    → written late (list ++ v ∷ []) ≡ written late list ++ v ∷ []
written-push None list v below = refl
written-push (Some answer) list v below = set-append_left list (v ∷ []) answer.0 answer.1 (below answer refl)

-- the answer of the position that was put last
written-last : (list : List Verdict) (n : ℕ) (v w : Verdict) → n ≡ length list → written (Some (n, w)) (list ++ v ∷ []) ≡ list ++ w ∷ []
written-last list n v w e = ap (λ k. set (list ++ v ∷ []) k w) e ∙ set-append_seam list v [] w

-- begins: the cell heads a unit; holds: the position before it is held
step : (begins holds : Bool) (still : Option (ℕ × Verdict)) (verdict : Verdict) (n : ℕ) (list more : List Verdict)
    → (holds ≡ true → begins ≡ true) → n ≡ length list → ForSome still (λ answer. answer.0 < length list)
    → written (cond holds (Some (n, verdict)) (cond begins None still)) (written (cond begins still None) list ++ placed (cond holds None (Some verdict)) ∷ []) ++ more
    ≡ written still list ++ verdict ∷ more
step true true still verdict n list more begun place below =
    ap (λ l. l ++ more) (written-last (written still list) n (placed None) verdict (place ∙ sym (length-written still list)))
    ∙ append_assoc (written still list) (verdict ∷ []) more
step true false still verdict n list more begun place below = append_assoc (written still list) (verdict ∷ []) more
step false true still verdict n list more begun place below = absurd (false≢true (begun refl))
step false false still verdict n list more begun place below =
    ap (λ l. l ++ more) (written-push still list verdict below) ∙ append_assoc (written still list) (verdict ∷ []) more

-- Verdicts so far, and those to come, are all
pub record AddsUp (profile : Profile) (cell : ℕ → Cell) (end : Verdict) (before rest : List ℕ) (list all : List Verdict) : Type 0 where
  pub many : length list ≡ length before
  pub joined : written (answer_at profile (map cell before) (map cell rest)) list ++ onward profile cell end before rest ≡ all

AddsUp-start : (profile : Profile) (cell : ℕ → Cell) (end : Verdict) (cs : List ℕ)
    → (cs ≡ [] → ⊥) → AddsUp profile cell end [] cs [] (verdicts_of (ended end (marks profile cell cs)))
unfolding unanswered_before
AddsUp-start profile cell end [] some = absurd (some refl)
AddsUp-start profile cell end (c ∷ cs) some = record { many = refl; joined = onward-start profile cell end c cs }

AddsUp-step : (profile : Profile) (cell : ℕ → Cell) (end : Verdict) (before : List ℕ) (c : ℕ) (cs : List ℕ) (list all : List Verdict)
    (now : Option Verdict) (late : Option (ℕ × Verdict))
    → now ≡ now_at profile (map cell before) (cell c ∷ map cell cs) → late ≡ late_at profile (map cell before) (cell c) (map cell cs)
    → AddsUp profile cell end before (c ∷ cs) list all
    → AddsUp profile cell end (before ++ c ∷ []) cs (written late list ++ placed now ∷ []) all
AddsUp-step profile cell end before c cs list all now late now_same late_same adds_up =
    let left = map cell before in
    let more = map cell cs in
    let holds = is_held profile left (cell c ∷ more) in
    let begins = heads (reverse left) (cell c) in
    let verdict = verdict_between_in profile left (cell c ∷ more) in
    let still = answer_at profile left (cell c ∷ more) in
    let further = onward profile cell end (before ++ c ∷ []) cs in
    let next : List Verdict = written (cond begins still None) list ++ placed (cond holds None (Some verdict)) ∷ [] in
    let same : written late list ++ placed now ∷ [] ≡ next =
    ap (λ o. written late list ++ placed o ∷ []) now_same ∙ ap (λ o. written o list ++ placed (cond holds None (Some verdict)) ∷ []) late_same in
    let waits : answer_at profile (map cell (before ++ c ∷ [])) more ≡ cond holds (Some (length left, verdict)) (cond begins None still) =
    ap (λ cells. answer_at profile cells more) (map-append cell before (c ∷ [])) ∙ answer-snoc profile left (cell c) more in
    let place : length left ≡ length list = length-map before cell ∙ sym adds_up.many in
    record {
      many = length_push (written late list) (placed now) ∙ ap (λ n. n + 1) (length-written late list ∙ adds_up.many) ∙ sym (length_push before c);
      joined =
          ap (λ l. written (answer_at profile (map cell (before ++ c ∷ [])) more) l ++ further) same
          ∙ ap (λ o. written o next ++ further) waits
          ∙ step begins holds still verdict (length left) list further (held-heads profile left (cell c) more) place
          (λ answer e. subst (λ n. answer.0 < n) place (answer_at-below profile left (cell c ∷ more) answer e))
          ∙ adds_up.joined;
    }

-- The loop: what was decided, where `rest` is left of the text. Fits: what is known of the scalars that
-- were taken
pub record Decides (Fits : List ℕ → Type 0) (profile : Profile) (cell : ℕ → Cell) (end : Verdict) (text : List ℕ) (list : List Verdict) (rest : List ℕ) : Type 0 where
  pub before : List ℕ
  pub fits : Fits before
  pub few : length before + length rest ≤ length text
  pub utf8 : IsUtf8 rest
  pub adds_up : AddsUp profile cell end before (chars rest) list (verdicts_of (ended end (marks profile cell (chars text))))

some-chars : (text : List ℕ) → IsUtf8 text → 0 < length text → chars text ≡ [] → ⊥
some-chars text utf8 some none =
    let empty : length text ≡ 0 = ap length (sym (encodes-chars text utf8) ∙ ap encode_utf8_all none) in omega (arith, empty)

pub Decides-start : (Fits : List ℕ → Type 0) (profile : Profile) (cell : ℕ → Cell) (end : Verdict) (text : List ℕ) (list : List Verdict) (rest : List ℕ)
    → IsUtf8 text → 0 < length text → Fits [] → list ≡ [] → rest ≡ text → Decides Fits profile cell end text list rest
Decides-start Fits profile cell end text list rest utf8 some fits fresh whole =
    let all = verdicts_of (ended end (marks profile cell (chars text))) in
    let begun = AddsUp-start profile cell end (chars text) (some-chars text utf8 some) in
    let placed_so = subst (λ (l : List Verdict). AddsUp profile cell end [] (chars text) l all) (sym fresh) begun in
    record {
      before = [];
      fits = fits;
      few = let same : length rest ≡ length text = ap length whole in omega (arith, same);
      utf8 = subst IsUtf8 (sym whole) utf8;
      adds_up = subst (λ (r : List ℕ). AddsUp profile cell end [] (chars r) list all) (sym whole) placed_so;
    }

pub Decides-step : (Fits Next : List ℕ → Type 0) (profile : Profile) (cell : ℕ → Cell) (end : Verdict) (text : List ℕ) (list list' : List Verdict) (c : ℕ) (rest more : List ℕ)
    (now : Option Verdict) (late : Option (ℕ × Verdict))
    → ((taken : List ℕ) (others : List Cell) → Fits taken → length taken < 18446744073709551615 → now ≡ now_at profile (map cell taken) (cell c ∷ others))
    → ((taken : List ℕ) (others : List Cell) → Fits taken → length taken < 18446744073709551615 → late ≡ late_at profile (map cell taken) (cell c) others)
    → ((taken : List ℕ) → Fits taken → length taken < 18446744073709551615 → Next (taken ++ c ∷ [])) → length text < 2 ^ 32
    → rest ≡ encode_utf8 c ++ more → list' ≡ written late list ++ placed now ∷ []
    → Decides Fits profile cell end text list rest
    → Decides Next profile cell end text list' more
Decides-step Fits Next profile cell end text list list' c rest more now late nows lates fit few splits pushed l =
    let all = verdicts_of (ended end (marks profile cell (chars text))) in
    let on = l.before ++ c ∷ [] in
    let others = map cell (chars more) in
    let begins : chars rest ≡ c ∷ chars more = chars_past_char rest more c l.utf8 splits in
    let held = subst (λ (cs : List ℕ). AddsUp profile cell end l.before cs list all) begins l.adds_up in
    let short : length l.before < 18446744073709551615 = omega (arith, l.few) in
    let stepped = AddsUp-step profile cell end l.before c (chars more) list all now late (nows l.before others l.fits short) (lates l.before others l.fits short) held in
    let width : 1 ≤ length (encode_utf8 c) = (let bounds = len_utf8_bounds c in omega (arith, length-encode c, bounds.0)) in
    record {
      before = on;
      fits = fit l.before l.fits short;
      few = omega (arith, length_push l.before c, length-append (encode_utf8 c) more, ap length splits, l.few);
      utf8 = IsUtf8-past_char rest more c l.utf8 splits;
      adds_up = subst (λ (v : List Verdict). AddsUp profile cell end on (chars more) v all) (sym pushed) stepped;
    }

pub Decides-below : (Fits : List ℕ → Type 0) (profile : Profile) (cell : ℕ → Cell) (end : Verdict) (text : List ℕ) (list : List Verdict) (rest : List ℕ)
    (left : List Cell → Option (ℕ × Verdict)) (late : Option (ℕ × Verdict))
    → ((taken : List ℕ) → Fits taken → length taken < 18446744073709551615 → late ≡ left (map cell taken))
    → ((cells : List Cell) → ForSome (left cells) (λ answer. answer.0 < length cells)) → length text < 2 ^ 32
    → Decides Fits profile cell end text list rest → ForSome late (λ answer. answer.0 < length list)
Decides-below Fits profile cell end text list rest left late lates below few l = λ answer e.
    (let under = below (map cell l.before) answer (sym (lates l.before l.fits (omega (arith, l.few))) ∙ e) in
    omega (arith, under, length-map l.before cell, l.adds_up.many))

pub Decides-end : (Fits : List ℕ → Type 0) (profile : Profile) (cell : ℕ → Cell) (end : Verdict) (text : List ℕ) (list list' : List Verdict) (rest : List ℕ)
    (late : Option (ℕ × Verdict))
    → ((taken : List ℕ) → Fits taken → late ≡ answer_at profile (map cell taken) [])
    → length rest ≡ 0 → list' ≡ written late list ++ end ∷ [] → Decides Fits profile cell end text list rest
    → list' ≡ verdicts_of (ended end (marks profile cell (chars text)))
Decides-end Fits profile cell end text list list' rest late lates none pushed l =
    let all = verdicts_of (ended end (marks profile cell (chars text))) in
    let no_chars : chars rest ≡ [] = ap chars (nil_from_length rest none) ∙ chars-nil in
    let last = subst (λ (cs : List ℕ). AddsUp profile cell end l.before cs list all) no_chars l.adds_up in
    pushed ∙ ap (λ o. written o list ++ end ∷ []) (lates l.before l.fits) ∙ last.joined

length-ended : (end : Verdict) (ms : List Marked) → length (ended end ms) ≡ length ms
length-ended end [] = refl
length-ended end (m ∷ []) = refl
length-ended end (m ∷ n ∷ ms) = let rest = length-ended end (n ∷ ms) in omega (arith, rest)

length-marks : (profile : Profile) (cell : ℕ → Cell) (before cs : List ℕ) → length (marks_behind profile cell before cs) ≡ length cs
length-marks profile cell before [] = refl
length-marks profile cell before (c ∷ cs) = let rest = length-marks profile cell (before ++ c ∷ []) cs in omega (arith, rest)

-- as many as positions
pub length-verdicts : (profile : Profile) (cell : ℕ → Cell) (end : Verdict) (cs : List ℕ)
    → length (verdicts_of (ended end (marks profile cell cs))) ≡ length cs + 1
length-verdicts profile cell end cs =
    let each = length-map (ended end (marks profile cell cs)) (λ (m : Marked). m.after) in
    omega (arith, each, length-ended end (marks profile cell cs), length-marks profile cell [] cs)
