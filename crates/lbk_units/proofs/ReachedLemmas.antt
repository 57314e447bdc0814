-- How far a call has come, scalar by scalar.
use Rattle.std.proofs.Common.{◌≡◌, ℕ, ◌+◌, ◌<◌, List, [], ◌∷◌, ◌++◌, length, get_or, map, append_assoc, reverse, sym, ap, subst, ◌∙◌, arith}
use Rattle.std.specs.Char.{IsScalar}
use Rattle.std.proofs.lemmas.List.{length-append}
use Rattle.bstr.specs.Utf8.{Decoded, or_replacement}
use Rattle.lbk_rules.specs.declared.Break.{Break}
use Rattle.lbk_rules.specs.declared.Cell.{Cell}
use Rattle.lbk_rules.specs.declared.steps.Step.{Step}
use Rattle.lbk_rules.specs.declared.steps.TheConstants.{HELD}
use Rattle.lbk_values.specs.declared.profile.Profile.{Profile}
use Rattle.lbk_rules.specs.declared.Verdict.{Verdict}
use Rattle.lbk_rules.specs.Normal.{normal}
use Rattle.lbk_rules.specs.Verdict.{verdict_between_in}
use Rattle.lbk_rules.specs.declared.neighbours.Neighbours.{Neighbours}
use Rattle.lbk_rules.specs.FlatTable.{AreFlatKinds, IsFlatBy, KnowsTaken}
use Rattle.lbk_rules.specs.Kinds.{kind_cell, real_kind}
use Rattle.lbk_rules.specs.RowMachineFits.{normals}
use Rattle.lbk_rules.specs.Rows.{left_at, step_by, steps_in, verdict_shown}
use Rattle.lbk_bytes.specs.declared.deciding.Decided.{Decided}
use Rattle.lbk_bytes.specs.declared.fill_state.FillState.{FillState}
use Rattle.lbk_bytes.specs.declared.raw_break.RawBreak.{RawBreak}
use Rattle.lbk_bytes.specs.Bytes.{AtEnd}
use Rattle.lbk_bytes.specs.Reached.{Onward, scalars_of}
use Rattle.lbk_bytes.proofs.StepLemmas.{IsSwiftStep, decides-text, knows-more, swift-step}
use Rattle.lbk_units.specs.Filling.{Fills, GivesOf, GoesOn}
use Rattle.lbk_units.specs.Reached.{IsUnitDecided, UnitsReachedBy, on_from}

-- one more scalar, before which `add` adds what is written
module _ (from : Onward) (add : ℕ → Verdict → List Break → List Break)
    (steps : (profile : Profile) (cell : ℕ → Cell) (before : List ℕ) (at : ℕ) (p : Decoded) (ps : List Decoded)
    → from profile cell before at (p ∷ ps)
    ≡ add at (verdict_between_in profile (map cell before) (map cell (scalars_of (p ∷ ps)))) (from profile cell (before ++ or_replacement p.char ∷ []) (at + p.size) ps))
    (adds : (at : ℕ) (verdict : Verdict) (more : List Break) → add at verdict more ≡ add at verdict [] ++ more) where
  pub reached-step : (profile : Profile) (cell : ℕ → Cell) (on : ℕ → List Decoded) (all : List Break) (here there : FillState) (given after : List Break)
      (p : Decoded) (verdict : Verdict) (r : UnitsReachedBy from profile cell on all here given)
      → on here.at ≡ p ∷ on there.at → there.at ≡ here.at + p.size → 0 < p.size
      → KnowsTaken cell there.row (r.taken ++ or_replacement p.char ∷ [])
      → verdict ≡ verdict_between_in profile (map cell r.taken) (cell (or_replacement p.char) ∷ map cell (scalars_of (on there.at)))
      → after ≡ given ++ add here.at verdict []
      → UnitsReachedBy from profile cell on all there after
  reached-step profile cell on all here there given after p verdict r begins moved more knows decides grown =
      let c = or_replacement p.char in
      let rest = on there.at in
      let taken = r.taken ++ c ∷ [] in
      let further = from profile cell taken there.at rest in
      let stepped : from profile cell r.taken here.at (p ∷ rest) ≡ add here.at verdict further =
      steps profile cell r.taken here.at p rest
      ∙ ap (λ v. add here.at v (from profile cell taken (here.at + p.size) rest)) (sym decides)
      ∙ ap (λ n. add here.at verdict (from profile cell taken n rest)) (sym moved) in
      let longer = length-append r.taken (c ∷ []) in
      record {
        taken = taken;
        knows = knows;
        some = λ _. omega arith;
        joined =
            r.joined
            ∙ ap (λ ps. given ++ from profile cell r.taken here.at ps) begins
            ∙ ap (λ l. given ++ l) (stepped ∙ adds here.at verdict further)
            ∙ sym (append_assoc given (add here.at verdict []) further)
            ∙ ap (λ g. g ++ further) (sym grown);
      }

  -- by what follows
  pub step-decided : (profile : Profile) (cell : ℕ → Cell) (on : ℕ → List Decoded) (all : List Break) (here : FillState) (next : ℕ) (given after : List Break) (found : Decided)
      → ((taken : List ℕ) → KnowsTaken cell here.row taken → IsUnitDecided profile cell on here.at taken found)
      → (after ≡ given ++ add here.at (verdict_shown found.shown) [])
      → UnitsReachedBy from profile cell on all here given
      → UnitsReachedBy from profile cell on all (record { count = next; row = found.row; at = found.at }) after
  step-decided profile cell on all here next given after found decided front r =
      let d = decided r.taken r.knows in
      reached-step profile cell on all here (record { count = next; row = found.row; at = found.at })
      given after d.piece (verdict_shown found.shown) r d.begins d.moved d.some d.knows d.decides front

  -- by a step that decides
  pub reached-swift : (profile : Profile) (cell : ℕ → Cell) (on : ℕ → List Decoded) (all : List Break) (steps : List (List Step)) (kinds : List ℕ)
      (given after : List Break) (count next row at c size : ℕ) (p : Decoded) (step : Step)
      → steps ≡ steps_in profile → AreFlatKinds kinds cell → IsScalar c
      → on at ≡ p ∷ on (at + size) → or_replacement p.char ≡ c → p.size ≡ size → 0 < size
      → step ≡ step_by steps row (get_or kinds c 0) → ¬ (step.shown ≡ HELD)
      → after ≡ given ++ add at (verdict_shown step.shown) []
      → UnitsReachedBy from profile cell on all (record { count = count; row = row; at = at }) given
      → UnitsReachedBy from profile cell on all (record { count = next; row = step.next; at = at + size }) after
  reached-swift profile cell on all rows kinds given after count next row at c size p step are are_kinds is_scalar begins reads sized some same apart front r =
      let kind = real_kind (get_or kinds c 0) in
      let is_kind = are_kinds c is_scalar in
      let here : IsSwiftStep profile (left_at row) (kind_cell kind) step =
      subst (λ s. IsSwiftStep profile (left_at row) (kind_cell kind) s) (sym same) (swift-step profile rows row (get_or kinds c 0) are r.knows.0) in
      let right = map cell (scalars_of (on (at + size))) in
      reached-step profile cell on all (record { count = count; row = row; at = at }) (record { count = next; row = step.next; at = at + size })
      given after p (verdict_shown step.shown) r begins (ap (λ n. at + n) (sym sized)) (omega arith)
      (subst (λ x. KnowsTaken cell step.next (r.taken ++ x ∷ [])) (sym reads)
      (knows-more cell row step.next c kind is_kind here.begins here.leads r.taken r.knows))
      (decides-text profile cell r.taken c kind step.shown right is_kind
      (here.decides apart (reverse (normals cell r.taken)) (map normal right) (sym r.knows.1))
      ∙ ap (λ x. verdict_between_in profile (map cell r.taken) (cell x ∷ right)) (sym reads))
      front

-- a call ends that has filled a block
pub filled : {A : Type 0} (Is : RawBreak → Type 0) (onward : AtEnd → Onward) (pieces_of : List A → List Decoded) (kinds : List ℕ) (pairs : Neighbours) (profile : Profile) (text : List A)
    (old : List RawBreak) (start : FillState) (new : List RawBreak) (result : FillState)
    → GoesOn Is (length text) old start new result → (length old ≡ 0 → result ≡ start) → (result.count < length old → result.at ≡ length text)
    → ((cell : ℕ → Cell) → IsFlatBy kinds pairs cell → GivesOf onward profile cell (on_from pieces_of text) old start new result)
    → Fills Is onward pieces_of kinds pairs profile text old start new result
filled Is onward pieces_of kinds pairs profile text old start new result on no_room stops gives = record {
  within = on.within;
  stops = stops;
  no_room = no_room;
  in_order = on.in_order;
  reached = λ cell all flat. gives cell flat all;
}
