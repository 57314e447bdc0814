-- The runs of Unicode 15.0.0: each code has one, and the kinds of all codes are theirs.
use borrow.Rule.Slice.PartMut.{post_of, put_mid}
use Rattle.std.proofs.Common.{◌≡◌, ℕ, zero, suc, ◌+◌, ◌-◌, ◌<◌, ◌≤◌, ◌&&◌, Bool, true, List, [], ◌∷◌, ◌++◌, length, get_or, take, drop, drop-cons, nat_lt, inl, inr, refl, sym, ap, subst, ◌∙◌, arith, ltb-true, not-suc-le-zero}
use Rattle.std.proofs.Math.ListN.{replicate}
use Rattle.std.specs.List.{list_all}
use Rattle.std.proofs.lemmas.Bool.{and_parts, cases_lt}
use Rattle.std.proofs.lemmas.List.{ext_get_or, get_or-append_right, get_or-replicate, get_or-take, get_or_append_left, length-append, length-replicate, length-take-le}
use Rattle.std.proofs.lemmas.List.FromFn.{length-map-range_with_len}
use Rattle.ucd_table.specs.Steps.{step_value}
use Rattle.ucd_table.proofs.StepsLemmas.{step_value-here, step_value-later}
use Rattle.lbk_uax14.specs.Pages.{AreSame}
use Rattle.lbk_rules.specs.declared.unicode_runs.TheConstants.{UNICODE_RUNS}
use Rattle.lbk_rules.specs.Kinds.{kind_of, kinds_of_cells}
use Rattle.lbk_rules.specs.Unicode.{cell_numbered, ends_from, number_of, unicode_cell}
use Rattle.lbk_rules.proofs.CellTableLemmas.{kinds-at}

abbrev pub Runs : Type 0
Runs = List (ℕ × ℕ)

-- how many codes runs have
unfoldable pub total : Runs → ℕ
total [] = 0
total (run ∷ runs) = run.0 + total runs

pub total-all : total UNICODE_RUNS ≡ 0x11_0000
unfolding total
total-all = refl

-- each run has a code, and a cell
abbrev pub is_run : ℕ × ℕ → Bool
is_run run = nat_lt 0 run.0 && nat_lt run.1 65

runs_ok : list_all is_run UNICODE_RUNS ≡ true
runs_ok = refl

pub record IsRun (run : ℕ × ℕ) : Type 0 where
  pub some : 0 < run.0
  pub few : run.1 < 65

run-in : (runs : Runs) (i : ℕ) → list_all is_run runs ≡ true → i < length runs → IsRun (get_or runs i (0, 0))
run-in [] i all lt = absurd (not-suc-le-zero lt)
run-in (run ∷ runs) zero all lt =
    let parts = and_parts _ _ (and_parts (is_run run) (list_all is_run runs) all).0 in
    record { some = ltb-true 0 run.0 parts.0; few = ltb-true run.1 65 parts.1 }
run-in (run ∷ runs) (suc i) all lt = run-in runs i (and_parts (is_run run) (list_all is_run runs) all).1 (omega arith)

pub run-at : (i : ℕ) → i < 3624 → IsRun (get_or UNICODE_RUNS i (0, 0))
run-at i lt = run-in UNICODE_RUNS i runs_ok lt

-- so many runs end before a code, and those behind them tell the cells from it on
pub record IsReached (first i : ℕ) : Type 0 where
  pub ahead : (code : ℕ) → first ≤ code → number_of code ≡ step_value 0 (ends_from first (drop i UNICODE_RUNS)) code
  pub left : first + total (drop i UNICODE_RUNS) ≡ 0x11_0000

pub reached-start : IsReached 0 0
unfolding number_of total
reached-start = record { ahead = λ code _. refl; left = total-all }

-- what the next run tells
pub record Passes (first i : ℕ) (run : ℕ × ℕ) : Type 0 where
  pub within : first + run.0 ≤ 0x11_0000
  pub here : (code : ℕ) → first ≤ code → code < first + run.0 → number_of code ≡ run.1
  pub onward : IsReached (first + run.0) (suc i)

passes-from : (first i : ℕ) (run : ℕ × ℕ) → drop i UNICODE_RUNS ≡ run ∷ drop (suc i) UNICODE_RUNS → IsReached first i → Passes first i run
unfolding ends_from total
passes-from first i run next reached =
    let rest = drop (suc i) UNICODE_RUNS in
    let left : first + (run.0 + total rest) ≡ 0x11_0000 = subst (λ runs. first + total runs ≡ 0x11_0000) next reached.left in
    let ahead : (code : ℕ) → first ≤ code → number_of code ≡ step_value 0 ((first + run.0, run.1) ∷ ends_from (first + run.0) rest) code =
    λ code from. reached.ahead code from ∙ ap (λ runs. step_value 0 (ends_from first runs) code) next in
    record {
      within = omega (arith, left);
      here = λ code from below. ahead code from ∙ step_value-here 0 (first + run.0, run.1) (ends_from (first + run.0) rest) code below;
      onward = record {
        ahead = λ code from. ahead code (omega arith) ∙ step_value-later 0 (first + run.0, run.1) (ends_from (first + run.0) rest) code from;
        left = omega (arith, left);
      };
    }

pub passes : (first i : ℕ) → i < 3624 → IsReached first i → Passes first i (get_or UNICODE_RUNS i (0, 0))
passes first i lt reached = passes-from first i (get_or UNICODE_RUNS i (0, 0)) (drop-cons UNICODE_RUNS i (0, 0) lt) reached

none-left : (first : ℕ) → IsReached first 3624 → first ≡ 0x11_0000
unfolding total
none-left first reached = let left : first + 0 ≡ 0x11_0000 = reached.left in omega (arith, left)

pub reached-end : (first i : ℕ) → i ≤ 3624 → 3624 ≤ i → IsReached first i → first ≡ 0x11_0000
reached-end first i most least reached =
    let all : i ≡ 3624 = omega (arith, most, least) in
    none-left first (subst (IsReached first) all reached)

-- the cell of a code with a number
pub cell-here : (code number : ℕ) → number_of code ≡ number → unicode_cell code ≡ cell_numbered number
unfolding unicode_cell
cell-here code number is = ap cell_numbered is

-- a run's cell is that of its codes
pub same-cell : (first last i : ℕ) (run : ℕ × ℕ) → Passes first i run → last + 1 ≡ first + run.0 → AreSame unicode_cell first last (cell_numbered run.1)
same-cell first last i run passes end = λ code from to. cell-here code run.1 (passes.here code from (omega (arith, to, end)))

-- how many codes have kinds
pub length-kinds : (cell : ℕ → _) → length (kinds_of_cells cell) ≡ 0x11_0000
unfolding kinds_of_cells
length-kinds cell = length-map-range_with_len (λ code. kind_of (cell code)) 0 0x11_0000

-- kinds that are written over those of a run's codes
pub filled-on : (kinds part : List ℕ) (first end i : ℕ) (run : ℕ × ℕ) → length kinds ≡ 0x11_0000 → Passes first i run → end ≡ first + run.0
    → part ≡ replicate run.0 (kind_of (cell_numbered run.1))
    → ((code : ℕ) → code < first → get_or kinds code 0 ≡ kind_of (unicode_cell code))
    → (code : ℕ) → code < end → get_or (put_mid first (end - first) kinds part) code 0 ≡ kind_of (unicode_cell code)
filled-on kinds part first end i run long passes end_is part_is filled code below =
    let before = take first kinds in
    let many : length before ≡ first = length-take-le first kinds (omega (arith, long, passes.within)) in
    let kind = kind_of (cell_numbered run.1) in
    let part_long : length part ≡ run.0 = ap length part_is ∙ length-replicate run.0 kind in
    elim (cases_lt code first) [
      | inl low ↦
          get_or_append_left before (part ++ post_of first (end - first) kinds) 0 code (omega (arith, many, low))
          ∙ get_or-take first kinds code 0 low ∙ filled code low
      | inr high ↦
          let few : code - first < run.0 = omega (arith, high, below, end_is) in
          get_or-append_right before (part ++ post_of first (end - first) kinds) first code 0 many high
          ∙ get_or_append_left part (post_of first (end - first) kinds) 0 (code - first) (omega (arith, part_long, few))
          ∙ ap (λ ks. get_or ks (code - first) 0) part_is
          ∙ get_or-replicate run.0 (code - first) kind 0 few
          ∙ sym (ap kind_of (cell-here code run.1 (passes.here code high (omega (arith, below, end_is)))))
    ]

-- all of them
pub filled-all : (kinds : List ℕ) → length kinds ≡ 0x11_0000 → ((code : ℕ) → code < 0x11_0000 → get_or kinds code 0 ≡ kind_of (unicode_cell code))
    → kinds ≡ kinds_of_cells unicode_cell
filled-all kinds long filled =
    ext_get_or 0 kinds (kinds_of_cells unicode_cell) (long ∙ sym (length-kinds unicode_cell))
    (λ i lt.
    let below : i < 0x11_0000 = subst (λ n. i < n) long lt in
    filled i below ∙ sym (kinds-at unicode_cell i below))

-- The kinds of all codes, run by run

abbrev pub kind_numbered : ℕ → ℕ
kind_numbered number = kind_of (cell_numbered number)

unfoldable pub kinds_from : Runs → List ℕ
kinds_from [] = []
kinds_from (run ∷ runs) = replicate run.0 (kind_numbered run.1) ++ kinds_from runs

length-kinds_from : (runs : Runs) → length (kinds_from runs) ≡ total runs
unfolding kinds_from total
length-kinds_from [] = refl
length-kinds_from (run ∷ runs) =
    omega (arith, length-append (replicate run.0 (kind_numbered run.1)) (kinds_from runs), length-replicate run.0 (kind_numbered run.1), length-kinds_from runs)

kinds_from-at : (first : ℕ) (runs : Runs) (i : ℕ) → i < total runs
    → get_or (kinds_from runs) i 0 ≡ kind_numbered (step_value 0 (ends_from first runs) (first + i))
unfolding kinds_from total ends_from
kinds_from-at first [] i lt = absurd (not-suc-le-zero lt)
kinds_from-at first (run ∷ runs) i lt =
    let kind = kind_numbered run.1 in
    let part = replicate run.0 kind in
    let many : length part ≡ run.0 = length-replicate run.0 kind in
    let steps = ends_from (first + run.0) runs in
    elim (cases_lt i run.0) [
      | inl here ↦
          get_or_append_left part (kinds_from runs) 0 i (omega (arith, many, here))
          ∙ get_or-replicate run.0 i kind 0 here
          ∙ sym (ap kind_numbered (step_value-here 0 (first + run.0, run.1) steps (first + i) (omega (arith, here))))
      | inr past ↦
          let at : first + run.0 + (i - run.0) ≡ first + i = omega (arith, past) in
          get_or-append_right part (kinds_from runs) run.0 i 0 many past
          ∙ kinds_from-at (first + run.0) runs (i - run.0) (omega (arith, past, lt))
          ∙ ap (λ code. kind_numbered (step_value 0 steps code)) at
          ∙ sym (ap kind_numbered (step_value-later 0 (first + run.0, run.1) steps (first + i) (omega (arith, past))))
    ]

pub kinds-from : kinds_from UNICODE_RUNS ≡ kinds_of_cells unicode_cell
unfolding number_of unicode_cell
kinds-from =
    let many : length (kinds_from UNICODE_RUNS) ≡ 0x11_0000 = length-kinds_from UNICODE_RUNS ∙ total-all in
    ext_get_or 0 (kinds_from UNICODE_RUNS) (kinds_of_cells unicode_cell) (many ∙ sym (length-kinds unicode_cell))
    (λ i lt.
    let below : i < 0x11_0000 = subst (λ n. i < n) many lt in
    kinds_from-at 0 UNICODE_RUNS i (subst (λ n. i < n) (sym total-all) below)
    ∙ ap (λ code. kind_numbered (step_value 0 (ends_from 0 UNICODE_RUNS) code)) (omega arith)
    ∙ sym (kinds-at unicode_cell i below))
