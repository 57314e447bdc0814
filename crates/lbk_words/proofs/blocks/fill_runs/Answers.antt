use Rattle.std.proofs.Common.{◌≡◌, ◌+◌, ◌-◌, List, ℕ, drop, subst, inr, arith}
use Rattle.std.proofs.Math.ListN.{length-set}
use Rattle.lbk_words.specs.Blocks.{AreEdges}
use Rattle.lbk_words.proofs.EdgeLemmas.{IsRun, first-run_found}
use Rattle.lbk_words.proofs.TakenLemmas.{run-taken}
use Rattle.lbk_words.proofs.blocks.fill_runs.Goals as goal
use Rattle.lbk_words.proofs.blocks.fill_runs.Goals.{After-without_first-left}

run-found : (c : After-without_first-left) (bytes : List ℕ) → AreEdges bytes (c.args.here.at - c.args.base) c.args.found
    → IsRun bytes (c.loop-here.here.at - c.args.base) c.first_set-begin.result c.first_set-end.result (record { edges = c.loop-here.left; stop = c.args.found.stop })
    (record { edges = c.without_first-left.result; stop = c.args.found.stop })
run-found c bytes are =
    let l = c.loop-here in
    let begin = c.first_set-begin in
    let end = c.first_set-end in
    first-run_found bytes (l.here.at - c.args.base) begin.result end.result l.left c.without_first-behind.result c.without_first-left.result c.args.found.stop
    (l.invariant.edges bytes are).1 c.if-left-gt0.true begin.ensures.within begin.ensures.lowest
    (c.without_first-behind.ensures.cleared begin.result begin.ensures.within begin.ensures.lowest) (omega (arith, c.if-behind-eq0.false))
    end.ensures.within end.ensures.lowest (c.without_first-left.ensures.cleared end.result end.ensures.within end.ensures.lowest)

pub loop-here-preserved : goal.loop-here-preserved
loop-here-preserved c =
    let l = c.loop-here in
    let base = c.args.base in
    let begin = c.first_set-begin.result in
    let end = c.first_set-end.result in
    let stop = c.args.found.stop in
    let next = c.without_first-left.result in
    record {
      base = omega arith;
      count = (let count = l.invariant.count in omega (arith, length-set l.out l.here.count (record { start = base + begin; end = base + end }), c.loop-here-test.true));
      within = inr (omega (arith, c.first_set-end.ensures.within));
      edges = λ bytes are.
          let run = run-found c bytes are in
          let so_far = (l.invariant.edges bytes are).0 in
          let after = run.after in
          let grows = run.grows in (
            omega arith,
            subst (λ n. AreEdges bytes n (record { edges = next; stop = stop })) (let e : end ≡ base + end - base = omega arith in e) run.others,
          );
      filled = λ text start inside are f.
          run-taken text start base l.here.at begin end l.here.count stop l.left next l.out l.invariant.base inside c.loop-here-test.true
          (l.invariant.edges (drop base text) are).1 (run-found c (drop base text) are) (l.invariant.filled text start inside are f);
    }

pub returns-else-left-gt0-clause-onward : goal.returns-else-left-gt0-clause-onward
returns-else-left-gt0-clause-onward c = λ bytes are. (c.loop-here.invariant.edges bytes are).0

pub returns-after-loop-here-clause-onward : goal.returns-after-loop-here-clause-onward
returns-after-loop-here-clause-onward c = λ bytes are. (c.loop-here.invariant.edges bytes are).0

pub returns-then-behind-eq0-clause-onward : goal.returns-then-behind-eq0-clause-onward
returns-then-behind-eq0-clause-onward c = λ bytes are. (c.loop-here.invariant.edges bytes are).0
