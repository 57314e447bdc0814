-- What comes at the end of a text, or of a part of one.
use Rattle.std.proofs.Common.{◌≡◌, ℕ, ◌%◌, ◌<◌, Bool, true, false, cond, ◌&&◌, not, List, [], ◌∷◌, ◌++◌, length, map, take, reverse, refl, sym, ap, subst, ◌∙◌, arith}
use Rattle.std.proofs.lemmas.Bool.{false≢true}
use Rattle.std.proofs.lemmas.List.{length-map, length-reverse, map-append}
use Rattle.std.proofs.Math.Seq.{drop-length, take-length}
use Rattle.lbk_rules.specs.declared.Cell.{Cell}
use Rattle.lbk_rules.specs.declared.Class.{Class}
use Rattle.lbk_rules.specs.declared.Left.{Left}
use Rattle.lbk_rules.specs.declared.Kind.{Kind}
use Rattle.lbk_rules.specs.declared.Kind.TheVariants.{No, May, Must}
use Rattle.lbk_rules.specs.declared.Verdict.{Verdict}
use Rattle.lbk_values.specs.declared.profile.Profile.{Profile}
use Rattle.lbk_values.specs.declared.profile.Profile.TheVariants.{First, Second}
use Rattle.lbk_rules.specs.declared.steps.Step.{Step}
use Rattle.lbk_rules.specs.Breaks.{break_by}
use Rattle.lbk_rules.specs.Classes.{CR, is}
use Rattle.lbk_rules.specs.Codes.{kind_number, kind_numbered}
use Rattle.lbk_rules.specs.Ends.{end_after, end_of_text, ends_between, ends_line}
use Rattle.lbk_rules.specs.Facts.{facts}
use Rattle.lbk_rules.specs.Normal.{normal, normals}
use Rattle.lbk_rules.specs.Sides.{Side, is_nothing}
use Rattle.lbk_rules.specs.Verdict.{verdict_between_in}
use Rattle.lbk_rules.proofs.EndLemmas.{must_at_length, must_between, no_must_between, start_of_text}
use Rattle.lbk_rules.proofs.ParagraphLemmas.{is_must}
use Rattle.lbk_rules.specs.FlatTable.{KnowsTaken}
use Rattle.lbk_rules.specs.Kinds.{kind_cell}
use Rattle.lbk_rules.specs.Rows.{IsShown, step_by, steps_in, verdict_shown}
use Rattle.lbk_rules.proofs.AheadLemmas.{ahead-normal}
use Rattle.lbk_rules.proofs.FlatLemmas.{left-start}
use Rattle.lbk_rules.proofs.ShownLemmas.{shown-verdict}
use Rattle.lbk_bytes.specs.declared.ends.TheConstants.{END, START}
use Rattle.lbk_bytes.proofs.ShownLemmas.{few-kinds}
use Rattle.lbk_bytes.specs.Bytes.{closed_end, open_end, with_break}
use Rattle.lbk_bytes.proofs.StepLemmas.{steps-here}

-- The end of a text

nothing-none : (side : Side) → is_nothing side ≡ true → length side ≡ 0
nothing-none [] none = refl
nothing-none (cell ∷ side) none = absurd (false≢true none)

empty : (l : List ℕ) → length l ≡ 0 → l ≡ []
empty [] none = refl
empty (c ∷ cs) none = absurd (omega arith)

-- the first row knows of no scalar
pub none-known : (cell : ℕ → Cell) (taken : List ℕ) → KnowsTaken cell 0 taken → taken ≡ []
unfolding facts
none-known cell taken known =
    let side = reverse (normals cell taken) in
    let none = nothing-none side (ap (λ (l : Left). l.empty) (sym known.1 ∙ left-start)) in
    let same : length side ≡ length taken =
    length-reverse (normals cell taken) ∙ length-map (map cell taken) normal ∙ length-map taken cell in
    empty taken (omega arith)

pub end-none : (profile : Profile) (cell : ℕ → Cell) (taken : List ℕ) (at : ℕ) → taken ≡ [] → with_break at (verdict_shown START) [] ≡ closed_end profile cell taken at
unfolding verdict_shown
end-none profile cell taken at none =
    sym (ap (λ l. closed_end profile cell l at) none ∙ ap (λ (v : Verdict). with_break at v []) (start_of_text profile []))

pub end-some : (profile : Profile) (cell : ℕ → Cell) (taken : List ℕ) (at : ℕ) → 0 < length taken → with_break at (verdict_shown END) [] ≡ closed_end profile cell taken at
unfolding verdict_shown
end-some profile cell taken at some =
    let cells = map cell taken in
    let must : verdict_between_in profile cells [] ≡ end_of_text =
    ap (λ l. verdict_between_in profile l []) (sym (take-length cells))
    ∙ ap (λ l. verdict_between_in profile (take (length cells) cells) l) (sym (drop-length cells))
    ∙ must_at_length profile cells (omega (arith, length-map taken cell)) in
    sym (ap (λ (v : Verdict). with_break at v []) must)

-- The end of a part

-- before a letter a line must end just where it must whatever follows
before-letter : (class : Class) → ends_between class (kind_cell 0).class ≡ ends_line class
unfolding kind_cell is
before-letter class =
    let both : (ends carriage : Bool) → (ends && not (carriage && false)) ≡ ends = elim [
      | true ↦ elim [ true ↦ refl | false ↦ refl ]
      | false ↦ λ _. refl
    ] in
    both (ends_line class) (CR class)

open-last : (profile : Profile) (cell : ℕ → Cell) (front : List ℕ) (c at : ℕ)
    → open_end profile cell (front ++ c ∷ []) at ≡ cond (ends_line (cell c).class) (break_by at (end_after (cell c).class) ∷ []) []
open-last profile cell [] c at = refl
open-last profile cell (a ∷ []) c at = refl
open-last profile cell (a ∷ b ∷ front) c at = open-last profile cell (b ∷ front) c at

-- a list is empty, or ends in an element
record EndsIn (l : List ℕ) : Type 0 where
  front : List ℕ
  last : ℕ
  is : l ≡ front ++ last ∷ []

ends-in : (c : ℕ) (cs : List ℕ) → EndsIn (c ∷ cs)
ends-in c [] = record { front = []; last = c; is = refl }
ends-in c (d ∷ ds) = let rest = ends-in d ds in record { front = c ∷ rest.front; last = rest.last; is = ap (λ l. c ∷ l) rest.is }

-- the verdict before a letter, as the step of a row has it
letter-verdict : (cell : ℕ → Cell) (row : ℕ) (taken : List ℕ) (step : Step) → KnowsTaken cell row taken
    → step ≡ step_by (steps_in First) row 0
    → verdict_shown step.shown ≡ verdict_between_in First (map cell taken) (kind_cell 0 ∷ [])
unfolding kind_cell normal is
letter-verdict cell row taken step known is_step =
    let here = steps-here row 0 step (step_by (steps_in Second) row 0) known.0 is_step refl in
    here.decides (reverse (normals cell taken)) [] (sym known.1) ∙ ahead-normal First cell taken (kind_cell 0 ∷ [])

-- numbers of verdicts by which a line must end, and others
must-shown : (shown : ℕ) → shown % 256 ≡ 2 → is_must (verdict_shown shown).kind ≡ true
unfolding verdict_shown
must-shown shown is = ap (λ n. is_must (kind_numbered n)) is

no-must-kind : (kind : Kind) → ¬ (kind_number kind ≡ 2) → is_must kind ≡ false
no-must-kind No apart = refl
no-must-kind May apart = refl
no-must-kind Must apart = absurd (apart refl)

no-must-shown : (shown : ℕ) → ¬ (shown % 256 ≡ 2) → IsShown shown → is_must (verdict_shown shown).kind ≡ false
no-must-shown shown apart known =
    let few = few-kinds known.0.kind in
    ap (λ (v : Verdict). is_must v.kind) (shown-verdict shown known.0 known.1)
    ∙ no-must-kind known.0.kind (λ two. apart (omega (arith, few, two, known.1)))

-- the end of a part by its last scalar, where this is the verdict before a letter
open-by : (profile : Profile) (cell : ℕ → Cell) (front : List ℕ) (c at : ℕ) (verdict : Verdict)
    → verdict ≡ verdict_between_in First (map cell (front ++ c ∷ [])) (kind_cell 0 ∷ [])
    → (is_must verdict.kind ≡ true → with_break at verdict [] ≡ open_end profile cell (front ++ c ∷ []) at)
    × (is_must verdict.kind ≡ false → open_end profile cell (front ++ c ∷ []) at ≡ [])
open-by profile cell front c at verdict is_verdict =
    let class = (cell c).class in
    let letter = kind_cell 0 in
    let shown : verdict ≡ verdict_between_in First (map cell front ++ cell c ∷ []) (letter ∷ []) =
    is_verdict ∙ ap (λ l. verdict_between_in First l (letter ∷ [])) (map-append cell front (c ∷ [])) in
    let last = open-last profile cell front c at in
    (elim (ends_line class)
    as (λ v. ends_line class ≡ v
    → (is_must verdict.kind ≡ true → with_break at verdict [] ≡ open_end profile cell (front ++ c ∷ []) at)
    × (is_must verdict.kind ≡ false → open_end profile cell (front ++ c ∷ []) at ≡ [])) [
      | true ↦ λ ends.
          let is : verdict ≡ end_after class = shown ∙ must_between First (map cell front) (cell c) letter [] (before-letter class ∙ ends) in (
            λ _. ap (λ (v : Verdict). with_break at v []) is ∙ sym (last ∙ ap (λ b. cond b (break_by at (end_after class) ∷ []) []) ends),
            λ none. absurd (false≢true (sym none ∙ ap (λ (v : Verdict). is_must v.kind) is)),
          )
      | false ↦ λ ends.
          let none : is_must verdict.kind ≡ false =
          ap (λ (v : Verdict). is_must v.kind) shown ∙ no_must_between First (map cell front) (cell c) letter [] (before-letter class ∙ ends) in (
            λ must. absurd (false≢true (sym none ∙ must)),
            λ _. last ∙ ap (λ b. cond b (break_by at (end_after class) ∷ []) []) ends,
          )
    ]) refl

open-at : (profile : Profile) (cell : ℕ → Cell) (taken : List ℕ) (at : ℕ) (verdict : Verdict)
    → verdict ≡ verdict_between_in First (map cell taken) (kind_cell 0 ∷ [])
    → (is_must verdict.kind ≡ true → with_break at verdict [] ≡ open_end profile cell taken at)
    × (is_must verdict.kind ≡ false → open_end profile cell taken at ≡ [])
open-at profile cell [] at verdict is_verdict =
    let none : is_must verdict.kind ≡ false = ap (λ (v : Verdict). is_must v.kind) (is_verdict ∙ start_of_text First (kind_cell 0 ∷ [])) in
    (λ must. absurd (false≢true (sym none ∙ must)), λ _. refl)
open-at profile cell (c ∷ cs) at verdict is_verdict =
    let l = ends-in c cs in
    subst (λ (taken : List ℕ). (is_must verdict.kind ≡ true → with_break at verdict [] ≡ open_end profile cell taken at)
    × (is_must verdict.kind ≡ false → open_end profile cell taken at ≡ [])) (sym l.is)
    (open-by profile cell l.front l.last at verdict (is_verdict ∙ ap (λ (t : List ℕ). verdict_between_in First (map cell t) (kind_cell 0 ∷ [])) l.is))

pub open-must : (profile : Profile) (cell : ℕ → Cell) (row : ℕ) (taken : List ℕ) (step : Step) (at : ℕ)
    → KnowsTaken cell row taken → step ≡ step_by (steps_in First) row 0 → step.shown % 256 ≡ 2
    → with_break at (verdict_shown step.shown) [] ≡ open_end profile cell taken at
open-must profile cell row taken step at known is_step must =
    (open-at profile cell taken at (verdict_shown step.shown) (letter-verdict cell row taken step known is_step)).0 (must-shown step.shown must)

pub open-none : (profile : Profile) (cell : ℕ → Cell) (row : ℕ) (taken : List ℕ) (step : Step) (at : ℕ)
    → KnowsTaken cell row taken → step ≡ step_by (steps_in First) row 0 → IsShown step.shown → ¬ (step.shown % 256 ≡ 2)
    → with_break at (verdict_shown START) [] ≡ open_end profile cell taken at
unfolding verdict_shown
open-none profile cell row taken step at known is_step shown apart =
    sym ((open-at profile cell taken at (verdict_shown step.shown) (letter-verdict cell row taken step known is_step)).1 (no-must-shown step.shown apart shown))
