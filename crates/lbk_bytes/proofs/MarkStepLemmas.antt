-- One more scalar, where bits are set.
use Rattle.std.proofs.Common.{◌≡◌, ℕ, ◌-◌, ◌*◌, ◌<◌, ◌≤◌, ◌==◌, ◌&&◌, ◌||◌, Bool, not, List, [], length, drop, refl, sym, ap, subst, ◌∙◌}
use Rattle.bstr.specs.Utf8.{decoded}
use Rattle.lbk_rules.specs.declared.Cell.{Cell}
use Rattle.lbk_values.specs.declared.profile.Profile.{Profile}
use Rattle.lbk_rules.specs.Breaks.{is_no}
use Rattle.lbk_rules.specs.FlatTable.{KnowsTaken}
use Rattle.lbk_rules.specs.Rows.{verdict_shown}
use Rattle.lbk_bytes.specs.declared.deciding.Decided.{Decided}
use Rattle.lbk_bytes.specs.declared.fill_state.FillState.{FillState}
use Rattle.lbk_bytes.specs.Bytes.{with_break}
use Rattle.lbk_bytes.specs.Decided.{IsDecided}
use Rattle.lbk_bytes.specs.Marking.{Marked, Told, uncounted}
use Rattle.lbk_bytes.specs.Marks.{is_marked}
use Rattle.lbk_bytes.specs.Reached.{Ahead}
use Rattle.lbk_bytes.proofs.BoundaryLemmas.{boundary-step}
use Rattle.lbk_bytes.proofs.MarkLemmas.{Told-more, break-among, break-below}
use Rattle.lbk_bytes.proofs.ReachedLemmas.{Reached-step}

-- it is told before it whether a line breaks there
pub Told-decided : (profile : Profile) (cell : ℕ → Cell) (text : List ℕ) (all : Ahead)
    (from last at row count next shown size : ℕ) (shows : Bool) (old new : ℕ → Bool) (found : Decided)
    → from ≤ at → at < length text → at < last
    → found.shown ≡ shown → shows ≡ not (is_no (verdict_shown shown).kind)
    → ((i : ℕ) → new i ≡ (old i || (shows && (at - from == i))))
    → ((taken : List ℕ) → KnowsTaken cell row taken → IsDecided profile cell text at taken found)
    → Told profile cell text all from last (record { count = count; row = row; at = at }) size old
    → Told profile cell text all from last (record { count = next; row = found.row; at = found.at }) size new
Told-decided profile cell text all from last at row count next shown size shows old new found after inside before same is_shown bits decided m =
    let here : FillState = record { count = count; row = row; at = at } in
    let there : FillState = record { count = next; row = found.row; at = found.at } in
    let verdict = verdict_shown found.shown in
    let is : shows ≡ not (is_no verdict.kind) = is_shown ∙ ap (λ n. not (is_no (verdict_shown n).kind)) (sym same) in
    Told-more profile cell text all from last here there size old new
    (λ rest start.
    let moved = (decided start.taken start.knows).moved in record {
      given = with_break at verdict [];
      reached = Reached-step profile cell text rest (uncounted here) (uncounted there) [] (with_break at verdict []) (decoded (drop at text)) verdict refl inside moved
          (λ taken known. (decided taken known).knows) (λ taken known. (decided taken known).decides) refl start;
      below = break-below last at verdict before;
      marked = λ i _. bits i ∙ ap (λ b. old i || b) (break-among shows from at i verdict is after);
      boundary = boundary-step text at found.at last inside before moved;
    }) m

-- a bit is set before it, where a line breaks there
pub Marked-decided : (profile : Profile) (cell : ℕ → Cell) (text : List ℕ) (all : Ahead)
    (from last at row count next shown : ℕ) (shows : Bool) (old new : List ℕ) (found : Decided)
    → length new ≡ length old → from ≤ at → at < length text → at < last
    → found.shown ≡ shown → shows ≡ not (is_no (verdict_shown shown).kind)
    → ((i : ℕ) → is_marked new i ≡ (is_marked old i || (shows && (at - from == i))))
    → ((taken : List ℕ) → KnowsTaken cell row taken → IsDecided profile cell text at taken found)
    → Marked profile cell text all from last (record { count = count; row = row; at = at }) old
    → Marked profile cell text all from last (record { count = next; row = found.row; at = found.at }) new
Marked-decided profile cell text all from last at row count next shown shows old new found same_length after inside before same is_shown bits decided m =
    let there : FillState = record { count = next; row = found.row; at = found.at } in
    subst (λ n. Told profile cell text all from last there (64 * n) (is_marked new)) (sym same_length)
    (Told-decided profile cell text all from last at row count next shown (64 * length old) shows (is_marked old) (is_marked new) found after inside before same is_shown bits decided m)
