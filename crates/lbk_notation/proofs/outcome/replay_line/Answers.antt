use Rattle.std.proofs.Common.{◌≡◌, ◌+◌, ◌<◌, ◌≤◌, arith, ap, sym, subst, ◌∙◌, [], length, map, take, drop, get_or}
use Rattle.std.proofs.lemmas.List.{length-map, take_all}
use Rattle.lbk_rules.specs.StepperFits.{StepperFits}
use Rattle.lbk_rules.specs.Verdict.{verdict_in}
use Rattle.lbk_rules.proofs.CoverLemmas.{answer_at-below, late_at-below}
use Rattle.lbk_notation.proofs.Markings.{around, length-before}
use Rattle.lbk_notation.proofs.OutcomeLemmas.{Knows-turn, Knows-end, Met-at}
use Rattle.lbk_notation.proofs.outcome.replay_line.Goals as goal

pub met_late-outcome-requires : goal.met_late-outcome-requires
met_late-outcome-requires g c = λ answer e.
    let cell = g.C.CellSource.cell_of c.args.cells.now in
    let scalars = c.args.line.now.scalars in
    let k = c.loop-position.position in
    let x = c.index-scalars-position.result in
    let more = map cell (drop (k + 1) scalars) in
    let within : k < length scalars = rw (← c.scalars-scalars.ensures.value) c.loop-position-test.true in
    let count = length-before cell scalars k (omega arith) in
    let short : length (take k scalars) < 18446744073709551615 = omega (arith, length-map (take k scalars) cell) in
    let late = c.step-out.ensures.late c.args.profile cell (take k scalars) more c.loop-position.invariant.fits short in
    let below = late_at-below c.args.profile (map cell (take k scalars)) (cell x) more answer (sym late ∙ e) in
    omega (arith, below, count, ap length c.marks-marks.ensures.value, c.marks-marks.ensures.one_more)

pub loop-position-preserved : goal.loop-position-preserved
loop-position-preserved g c =
    let cell = g.C.CellSource.cell_of c.args.cells.now in
    let line = c.args.line.now in
    let k = c.loop-position.position in
    let x = c.index-scalars-position.result in
    let before = take k line.scalars in
    let more = map cell (drop (k + 1) line.scalars) in
    let within : k < length line.scalars = rw (← c.scalars-scalars.ensures.value) c.loop-position-test.true in
    let there = around cell line.scalars k x within (c.index-scalars-position.is ∙ ap (λ l. get_or l k x) c.scalars-scalars.ensures.value) in
    let few : length before ≡ k = sym (length-map before cell) ∙ there.count in
    let short : length before < 18446744073709551615 = omega arith in
    let fits = c.loop-position.invariant.fits in
    record {
      fits = subst (StepperFits g.C.CellSource.cell_of c.step-out.new.self c.args.profile cell) there.one_more
          (c.step-out.ensures.fits c.args.profile cell before fits short);
      knows = Knows-turn cell c.args.form c.args.profile line (map cell before) (cell x) more (map cell (take (k + 1) line.scalars)) k
          c.step-out.result.late c.step-out.result.now c.loop-position.outcome c.met_late-outcome.result c.met_now-outcome.result
          there.whole there.next there.count within
          (c.step-out.ensures.late c.args.profile cell before more fits short) (c.step-out.ensures.now c.args.profile cell before more fits short)
          (rw c.marks-marks.ensures.value at c.met_late-outcome.ensures)
          (Met-at c.args.form line k c.step-out.result.now c.met_late-outcome.result c.met_now-outcome.result (rw c.marks-marks.ensures.value at c.met_now-outcome.ensures))
          c.loop-position.invariant.knows;
    }

pub met_late-outcome-requires-2 : goal.met_late-outcome-requires-2
met_late-outcome-requires-2 g c = λ answer e.
    let cell = g.C.CellSource.cell_of c.args.cells.now in
    let scalars = c.args.line.now.scalars in
    let k = c.loop-position.position in
    let late = c.finish-end.ensures.late c.args.profile cell (take k scalars) c.loop-position.invariant.fits in
    let below = answer_at-below c.args.profile (map cell (take k scalars)) [] answer (sym late ∙ e) in
    let few : k ≤ length scalars = rw (← c.scalars-scalars.ensures.value) (omega arith) in
    omega (arith, below, length-before cell scalars k few, ap length c.marks-marks.ensures.value, c.marks-marks.ensures.one_more)

pub returns : goal.returns
returns g c =
    let cell = g.C.CellSource.cell_of c.args.cells.now in
    let line = c.args.line.now in
    let k = c.loop-position.position in
    let before = take k line.scalars in
    let all : length line.scalars ≤ k = rw (← c.scalars-scalars.ensures.value) (omega arith) in
    let fits = c.loop-position.invariant.fits in
    Knows-end cell c.args.form c.args.profile line (map cell before) (length c.scalars-scalars.result.now)
    c.finish-end.result.late c.finish-end.result.end c.loop-position.outcome c.met_late-outcome-2.result c.met_now.result
    (ap (map cell) (take_all k line.scalars all)) (ap length c.scalars-scalars.ensures.value)
    (c.finish-end.ensures.late c.args.profile cell before fits)
    (c.finish-end.ensures.end c.args.profile cell before fits ∙ ap (verdict_in c.args.profile (map cell before)) (sym (length-map before cell)))
    (rw c.marks-marks.ensures.value at c.met_late-outcome-2.ensures) (rw c.marks-marks.ensures.value at c.met_now.ensures)
    c.loop-position.invariant.knows
