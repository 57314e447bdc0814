-- One more scalar, in the fast loop and behind it.
use Rattle.std.proofs.Common.{◌≡◌, ℕ, ◌+◌, ◌<◌, List, [], ◌++◌, length, get_or, drop, refl, sym, ap, ◌∙◌, inl}
use Rattle.bstr.specs.Utf8.{decoded}
use Rattle.lbk_rules.specs.declared.Cell.{Cell}
use Rattle.lbk_rules.specs.declared.steps.Step.{Step}
use Rattle.lbk_rules.specs.declared.steps.TheConstants.{HELD}
use Rattle.lbk_values.specs.declared.profile.Profile.{Profile}
use Rattle.lbk_rules.specs.FlatTable.{AreFlatKinds, KnowsTaken}
use Rattle.lbk_rules.specs.Rows.{step_by, steps_in, verdict_shown}
use Rattle.lbk_bytes.specs.declared.deciding.Decided.{Decided}
use Rattle.lbk_bytes.specs.declared.fill_state.FillState.{FillState}
use Rattle.lbk_bytes.specs.declared.raw_break.RawBreak.{RawBreak}
use Rattle.lbk_bytes.specs.Bytes.{with_break}
use Rattle.lbk_bytes.specs.Decided.{IsDecided}
use Rattle.lbk_bytes.specs.Reached.{Ahead, Reached}
use Rattle.lbk_bytes.specs.Shown.{given_in}
use Rattle.lbk_bytes.proofs.AnyPieceLemmas.{as-read, read-decided}
use Rattle.lbk_bytes.proofs.PieceLemmas.{Reads}
use Rattle.lbk_bytes.proofs.ReachedLemmas.{Reached-step}

pub Reached-decided : (profile : Profile) (cell : ℕ → Cell) (text : List ℕ) (all : Ahead)
    (out after : List RawBreak) (here : FillState) (next : ℕ) (found : Decided)
    → here.at < length text
    → ((taken : List ℕ) → KnowsTaken cell here.row taken → IsDecided profile cell text here.at taken found)
    → (given_in after next ≡ given_in out here.count ++ with_break here.at (verdict_shown found.shown) [])
    → Reached profile cell text all here (given_in out here.count)
    → Reached profile cell text all (record { count = next; row = found.row; at = found.at }) (given_in after next)
Reached-decided profile cell text all out after here next found inside decided front r =
    let d = decided r.taken r.knows in
    Reached-step profile cell text all here (record { count = next; row = found.row; at = found.at })
    (given_in out here.count) (given_in after next) (decoded (drop here.at text)) (verdict_shown found.shown) refl inside d.moved
    (λ taken known. (decided taken known).knows) (λ taken known. (decided taken known).decides) front r

-- the same of a break that was written by the number of its verdict
pub Reached-written : (profile : Profile) (cell : ℕ → Cell) (text : List ℕ) (all : Ahead)
    (out after : List RawBreak) (count row at next shown : ℕ) (found : Decided)
    → (given_in after next ≡ given_in out count ++ with_break at (verdict_shown shown) []) → found.shown ≡ shown → at < length text
    → ((taken : List ℕ) → KnowsTaken cell row taken → IsDecided profile cell text at taken found)
    → Reached profile cell text all (record { count = count; row = row; at = at }) (given_in out count)
    → Reached profile cell text all (record { count = next; row = found.row; at = found.at }) (given_in after next)
Reached-written profile cell text all out after count row at next shown found front same inside decided r =
    Reached-decided profile cell text all out after (record { count = count; row = row; at = at }) next found inside decided
    (front ∙ ap (λ n. given_in out count ++ with_break at (verdict_shown n) []) (sym same)) r

pub Reached-swift : (profile : Profile) (cell : ℕ → Cell) (text : List ℕ) (all : Ahead) (steps : List (List Step)) (kinds : List ℕ)
    (out after : List RawBreak) (count next row at code size : ℕ) (step : Step)
    → steps ≡ steps_in profile → AreFlatKinds kinds cell → Reads text at code size → at < length text
    → step ≡ step_by steps row (get_or kinds code 0) → ¬ (step.shown ≡ HELD)
    → (given_in after next ≡ given_in out count ++ with_break at (verdict_shown step.shown) [])
    → Reached profile cell text all (record { count = count; row = row; at = at }) (given_in out count)
    → Reached profile cell text all (record { count = next; row = step.next; at = at + size }) (given_in after next)
Reached-swift profile cell text all steps kinds out after count next row at code size step are are_kinds reads inside same apart front r =
    Reached-decided profile cell text all out after (record { count = count; row = row; at = at }) next (record { shown = step.shown; row = step.next; at = at + size })
    inside (read-decided profile cell text steps kinds row at code size step are are_kinds (as-read text at code size reads) same (inl apart)) front r
