use borrow.Rule.Slice.PartMut.{mid_of, put_mid, same_len_mid}
use Rattle.std.proofs.Common.{rules, ◌≡◌, ℕ, suc, ◌+◌, ◌-◌, ◌<◌, ◌≤◌, length, get_or, take, drop, replicate, ap, sym, subst, ◌∙◌, arith}
use Rattle.std.proofs.lemmas.List.{length-drop, length-take-le}
use Rattle.lbk_rules.specs.declared.unicode_runs.TheConstants.{UNICODE_RUNS}
use Rattle.lbk_rules.specs.Kinds.{kind_of}
use Rattle.lbk_rules.specs.Unicode.{cell_numbered, unicode_cell}
use Rattle.lbk_rules.proofs.UnicodeRuns.{IsReached, Passes, filled-all, filled-on, passes, reached-end, reached-start, run-at}
use Rattle.lbk_rules.proofs.unicode.fill_kinds.Goals as goal

-- the run that comes next
abbrev run_of : ℕ → ℕ × ℕ
run_of i = get_or UNICODE_RUNS i (0, 0)

pub loop-codes-init : goal.loop-codes-init
loop-codes-init c = record { long = search rules; reached = reached-start; filled = λ code below. absurd (omega (arith, below)) }

pub slice_bounds-fill-end : goal.slice_bounds-fill-end
slice_bounds-fill-end c =
    let codes : c.from.result ≡ (run_of c.loop-codes.codes-index).0 = c.from.ensures in
    let within = (passes c.loop-codes.first c.loop-codes.codes-index c.loop-codes-test.true c.loop-codes.invariant.reached).within in
    omega (arith, codes, within)

pub bounds-from : goal.bounds-from
bounds-from c =
    let number : c.from-in-loop-codes.result ≡ (run_of c.loop-codes.codes-index).1 = c.from-in-loop-codes.ensures in
    omega (arith, number, (run-at c.loop-codes.codes-index c.loop-codes-test.true).few)

pub loop-codes-preserved : goal.loop-codes-preserved
loop-codes-preserved c =
    let first = c.loop-codes.first in
    let i = c.loop-codes.codes-index in
    let kinds = c.loop-codes.kinds in
    let end = first + c.from.result in
    let codes : c.from.result ≡ (run_of i).0 = c.from.ensures in
    let number : c.from-in-loop-codes.result ≡ (run_of i).1 = c.from-in-loop-codes.ensures in
    let here = passes first i c.loop-codes-test.true c.loop-codes.invariant.reached in
    let end_is : end ≡ first + (run_of i).0 = omega (arith, codes) in
    let long : length kinds ≡ 0x11_0000 = c.loop-codes.invariant.long in
    let next : suc i ≡ i + 1 = omega arith in
    let many : length (mid_of first (end - first) kinds) ≡ (run_of i).0 =
    length-take-le (end - first) (drop first kinds) (omega (arith, length-drop first kinds, long, here.within, codes)) ∙ omega (arith, codes) in
    let kind : c.kind_of.result ≡ kind_of (cell_numbered (run_of i).1) = c.kind_of.ensures.kind ∙ ap (λ n. kind_of (cell_numbered n)) number in
    let part : c.fill.new.self ≡ replicate (run_of i).0 (kind_of (cell_numbered (run_of i).1)) =
    c.fill.ensures.after (λ y same. same) ∙ ap (λ n. replicate n c.kind_of.result) many ∙ ap (replicate (run_of i).0) kind in
    record {
      long = same_len_mid first (end - first) kinds c.fill.new.self c.fill.ensures.len ∙ long;
      reached = subst (λ n. IsReached (first + n) (i + 1)) (sym codes) (subst (IsReached (first + (run_of i).0)) next here.onward);
      filled = filled-on kinds c.fill.new.self first end i (run_of i) long here end_is part c.loop-codes.invariant.filled;
    }

pub returns : goal.returns
returns c =
    let all = reached-end c.loop-codes.first c.loop-codes.codes-index c.loop-codes.auto.codes-index-end c.loop-codes-test.false c.loop-codes.invariant.reached in
    filled-all c.loop-codes.kinds c.loop-codes.invariant.long (subst (λ n. (code : ℕ) → code < n → get_or c.loop-codes.kinds code 0 ≡ kind_of (unicode_cell code)) all c.loop-codes.invariant.filled)
