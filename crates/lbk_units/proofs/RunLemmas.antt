-- Calls that take scalars by the steps of a profile.
use Rattle.std.proofs.Common.{◌≡◌, ℕ, ◌+◌, ◌-◌, ◌<◌, ◌≤◌, List, [], ◌∷◌, ◌++◌, length, take, drop, get_or, map, subst, arith}
use Rattle.std.specs.Char.{IsScalar}
use Rattle.bstr.specs.Utf8.{Decoded, or_replacement}
use Rattle.lbk_rules.specs.declared.Break.{Break}
use Rattle.lbk_rules.specs.declared.Cell.{Cell}
use Rattle.lbk_rules.specs.declared.Verdict.{Verdict}
use Rattle.lbk_rules.specs.declared.steps.Step.{Step}
use Rattle.lbk_rules.specs.declared.steps.TheConstants.{HELD}
use Rattle.lbk_values.specs.declared.profile.Profile.{Profile}
use Rattle.lbk_rules.specs.Rows.{IsPlace, step_by, verdict_shown}
use Rattle.lbk_rules.specs.Verdict.{verdict_between_in}
use Rattle.lbk_bytes.specs.Bytes.{AtEnd}
use Rattle.lbk_bytes.specs.Front.{IsFront}
use Rattle.lbk_bytes.specs.Order.{AreInOrderBy}
use Rattle.lbk_bytes.specs.Reached.{IsInOrderBy, Onward, scalars_of}
use Rattle.lbk_bytes.specs.Shown.{given_in}
use Rattle.lbk_bytes.specs.Steps.{IsInText}
use Rattle.lbk_bytes.specs.declared.fill_state.FillState.{FillState}
use Rattle.lbk_bytes.specs.declared.raw_break.RawBreak.{RawBreak}
use Rattle.lbk_bytes.specs.declared.unit.UnitScalar.{UnitScalar}
use Rattle.lbk_bytes.proofs.PieceLemmas.{rest-of}
use Rattle.lbk_bytes.proofs.UnitLemmas.{front-at}
use Rattle.lbk_units.specs.Filling.{RunsOn}
use Rattle.lbk_units.proofs.ReachedLemmas.{reached-swift}

module _ {A : Type 0} (Is : RawBreak → Type 0) (onward : AtEnd → Onward) (pieces_of : List A → List Decoded) (kinds : List ℕ) (rows : List (List Step)) (text : List A) where
  -- a call that takes nothing
  pub runs-none : (out : List RawBreak) (here : FillState) → IsInText here (length text) (length out)
      → RunsOn Is onward pieces_of kinds rows text out here out here
  runs-none out here within = record {
    goes_on = record {
      within = within;
      onward = (omega arith, omega arith);
      in_order = λ from order. order;
    };
    gives = λ profile cell on are are_kinds follows all reached. reached;
  }

  -- one call after another
  pub runs-then : (old between new : List RawBreak) (start here result : FillState) → length between ≡ length old
      → RunsOn Is onward pieces_of kinds rows text old start between here
      → RunsOn Is onward pieces_of kinds rows text between here new result
      → RunsOn Is onward pieces_of kinds rows text old start new result
  runs-then old between new start here result same one more = record {
    goes_on = record {
      within = (omega (arith, more.goes_on.within.0, same), more.goes_on.within.1, more.goes_on.within.2);
      onward = (omega (arith, one.goes_on.onward.0, more.goes_on.onward.0), omega (arith, one.goes_on.onward.1, more.goes_on.onward.1));
      in_order = λ from order. more.goes_on.in_order from (one.goes_on.in_order from order);
    };
    gives = λ profile cell on are are_kinds follows all reached.
        more.gives profile cell on are are_kinds follows all (one.gives profile cell on are are_kinds follows all reached);
  }

  -- one scalar, before which `add` adds what is written
  module _ (add : ℕ → Verdict → List Break → List Break)
      (steps : (end : AtEnd) (profile : Profile) (cell : ℕ → Cell) (before : List ℕ) (at : ℕ) (p : Decoded) (ps : List Decoded)
      → onward end profile cell before at (p ∷ ps)
      ≡ add at (verdict_between_in profile (map cell before) (map cell (scalars_of (p ∷ ps)))) (onward end profile cell (before ++ or_replacement p.char ∷ []) (at + p.size) ps))
      (adds : (at : ℕ) (verdict : Verdict) (more : List Break) → add at verdict more ≡ add at verdict [] ++ more) where
    pub runs-step : (old new : List RawBreak) (here : FillState) (count : ℕ) (found : UnitScalar) (step : Step)
        → here.at < length text → IsFront pieces_of (take (length text - here.at) (drop here.at text)) found → IsScalar found.scalar
        → step ≡ step_by rows here.row (get_or kinds found.scalar 0) → IsPlace step.next → ¬ (step.shown ≡ HELD)
        → count ≤ length old → here.count ≤ count
        → ((from to : ℕ) → here.at < to → IsInOrderBy Is old here.count from here.at → AreInOrderBy Is new count from to)
        → given_in new count ≡ given_in old here.count ++ add here.at (verdict_shown step.shown) []
        → RunsOn Is onward pieces_of kinds rows text old here new (record { count = count; row = step.next; at = here.at + found.size })
    runs-step old new here count found step inside front is_scalar read begins apart room more order grown =
        let at = front-at pieces_of text here.at found inside front in
        record {
          goes_on = record {
            within = (room, begins, at.within);
            onward = (omega arith, more);
            in_order = λ from before. (omega (arith, before.0), order from (here.at + found.size) (omega (arith, at.some)) before);
          };
          gives = λ profile cell on are are_kinds follows all reached.
              let there = follows here.at found inside (subst (λ us. IsFront pieces_of us found) (rest-of text here.at) front) in
              reached-swift (onward all.end) add (steps all.end) adds profile cell on all.breaks rows kinds
              (given_in old here.count) (given_in new count) here.count count here.row here.at
              found.scalar found.size there.piece step are are_kinds is_scalar there.begins there.reads there.sized at.some
              read apart grown reached;
        }
