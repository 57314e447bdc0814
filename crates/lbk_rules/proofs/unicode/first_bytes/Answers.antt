use Rattle.std.proofs.Common.{◌≡◌, ℕ, suc, ◌+◌, ◌-◌, ◌<◌, ◌≤◌, get_or, sym, subst, arith}
use Rattle.lbk_rules.specs.declared.unicode_runs.TheConstants.{UNICODE_RUNS}
use Rattle.lbk_rules.specs.FirstBytes.{AreTold}
use Rattle.lbk_rules.specs.Unicode.{cell_numbered, unicode_cell}
use Rattle.lbk_rules.proofs.UnicodeRuns.{IsReached, IsRun, Passes, passes, reached-end, reached-start, run-at, same-cell}
use Rattle.lbk_uax14.specs.Pages.{AreSame}
use Rattle.lbk_rules.proofs.unicode.first_bytes.Goals as goal

-- the run that comes next
abbrev run_of : ℕ → ℕ × ℕ
run_of i = get_or UNICODE_RUNS i (0, 0)

pub loop-codes-init : goal.loop-codes-init
loop-codes-init c = record { reached = reached-start; told = c.of_none-told.ensures unicode_cell }

pub overflow_sub-behind : goal.overflow_sub-behind
overflow_sub-behind c =
    let codes : c.from.result ≡ (run_of c.loop-codes.codes-index).0 = c.from.ensures in
    omega (arith, codes, (run-at c.loop-codes.codes-index c.loop-codes-test.true).some)

pub bounds-from : goal.bounds-from
bounds-from c =
    let number : c.from-in-loop-codes.result ≡ (run_of c.loop-codes.codes-index).1 = c.from-in-loop-codes.ensures in
    omega (arith, number, (run-at c.loop-codes.codes-index c.loop-codes-test.true).few)

pub add-requires : goal.add-requires
add-requires c =
    let codes : c.from.result ≡ (run_of c.loop-codes.codes-index).0 = c.from.ensures in
    let some = (run-at c.loop-codes.codes-index c.loop-codes-test.true).some in
    let within = (passes c.loop-codes.first c.loop-codes.codes-index c.loop-codes-test.true c.loop-codes.invariant.reached).within in
    (omega (arith, codes, some, within), omega (arith, codes, some, within))

pub loop-codes-preserved : goal.loop-codes-preserved
loop-codes-preserved c =
    let first = c.loop-codes.first in
    let i = c.loop-codes.codes-index in
    let last = first + c.from.result - 1 in
    let codes : c.from.result ≡ (run_of i).0 = c.from.ensures in
    let number : c.from-in-loop-codes.result ≡ (run_of i).1 = c.from-in-loop-codes.ensures in
    let some = (run-at i c.loop-codes-test.true).some in
    let here = passes first i c.loop-codes-test.true c.loop-codes.invariant.reached in
    let end : last + 1 ≡ first + (run_of i).0 = omega (arith, codes, some) in
    let behind : last + 1 ≡ first + c.from.result = omega (arith, codes, some) in
    let next : suc i ≡ i + 1 = omega arith in
    let same : AreSame unicode_cell first last (cell_numbered c.from-in-loop-codes.result) =
    subst (λ n. AreSame unicode_cell first last (cell_numbered n)) (sym number) (same-cell first last i (run_of i) here end) in
    record {
      reached = subst (λ n. IsReached (first + n) (i + 1)) (sym codes) (subst (IsReached (first + (run_of i).0)) next here.onward);
      told = subst (AreTold unicode_cell c.add.new.self) behind (c.add.ensures unicode_cell same c.loop-codes.invariant.told);
    }

pub returns : goal.returns
returns c =
    let all = reached-end c.loop-codes.first c.loop-codes.codes-index c.loop-codes.auto.codes-index-end c.loop-codes-test.false c.loop-codes.invariant.reached in
    subst (AreTold unicode_cell c.loop-codes.told) all c.loop-codes.invariant.told
