use Rattle.std.proofs.Common.{◌≡◌, ◌∷◌, ◌++◌, ◌+◌, ◌-◌, ◌<◌, ◌≤◌, [], ℕ, List, take, drop, length, get_or, arith, sym, ap}
use Rattle.std.proofs.Common.{subst, ◌∙◌}
use Rattle.std.proofs.lemmas.List.{take_more, take_all, length-take-le}
use Rattle.lbk_uax14.specs.declared.cells.Cell.{Cell}
use Rattle.lbk_uax14.specs.declared.late_machine.LateMachine.{LateMachine}
use Rattle.lbk_values.specs.declared.profile.Profile.{Profile}
use Rattle.lbk_uax14.specs.Units.{letter}
use Rattle.lbk_uax14.specs.Answers.{count_of}
use Rattle.lbk_uax14.specs.Held.{late_at, unanswered}
use Rattle.lbk_uax14.specs.LateFits.{LateFits}
use Rattle.lbk_uax14.specs.Verdict.{verdict_in}
use Rattle.lbk_uax14.proofs.CoverLemmas.{Covers, Covers-start, Covers-turn, Covers-finish, answer_at-below}
use Rattle.lbk_uax14.proofs.CoverLemmas.{late_at-below, late_at-count}
use Rattle.lbk_uax14.proofs.MachineLemmas.{split-at}
use Rattle.lbk_uax14.proofs.late_machine.decide_all_in.Goals as goal

pub loop-k-init : goal.loop-k-init
loop-k-init c = record {
  fits = c.start-machine.ensures;
  covers = Covers-start (λ k. verdict_in c.args.profile c.args.cells.now k) c.args.verdicts.now c.args.profile;
}

pub step-out-requires : goal.step-out-requires
step-out-requires c =
    let steps = c.loop-k.invariant.fits.steps_same in
    let count = length-take-le c.loop-k.k c.args.cells.now (omega arith) in
    omega arith

pub write_late-answers-requires : goal.write_late-answers-requires
write_late-answers-requires c = λ answer e.
    let cells = c.args.cells.now in
    let k = c.loop-k.k in
    let cell = get_or cells k letter in
    let late = c.step-out.ensures.late c.args.profile (take k cells) (drop (k + 1) cells) c.loop-k.invariant.fits in
    let count = length-take-le k cells (omega arith) in
    let below = late_at-below c.args.profile (take k cells) cell (drop (k + 1) cells) answer (sym late ∙ e) in
    omega arith

pub overflow_add-answers-in-loop-k : goal.overflow_add-answers-in-loop-k
overflow_add-answers-in-loop-k c =
    let cells = c.args.cells.now in
    let k = c.loop-k.k in
    let cell = get_or cells k letter in
    let late = c.step-out.ensures.late c.args.profile (take k cells) (drop (k + 1) cells) c.loop-k.invariant.fits in
    let few = late_at-count c.args.profile (take k cells) cell (drop (k + 1) cells) in
    let come : count_of c.step-out.result.late
    ≡ count_of (late_at c.args.profile (take k cells) cell (drop (k + 1) cells)) =
    ap (λ a. count_of a) late in
    let count = c.write_late-answers.ensures.count in
    let counted = c.loop-k.invariant.covers.counted in
    omega arith

pub loop-k-preserved : goal.loop-k-preserved
loop-k-preserved c =
    let profile = c.args.profile in
    let cells = c.args.cells.now in
    let k = c.loop-k.k in
    let cell = get_or cells k letter in
    let more = drop (k + 1) cells in
    let within : k < length cells = c.loop-k-test.true in
    let fits = c.loop-k.invariant.fits in
    let one_more : take k cells ++ cell ∷ [] ≡ take (k + 1) cells = sym (take_more cells k letter within) in
    record {
      fits = subst (λ (l : List Cell). LateFits c.step-out.new.self profile l) one_more
          (c.step-out.ensures.fits profile (take k cells) fits);
      covers = Covers-turn profile cells (take k cells) more (take (k + 1) cells) cell
          c.loop-k.verdicts c.write_late-answers.new.verdicts c.write_now-answers.new.verdicts
          c.loop-k.answers k c.write_late-answers.result c.write_now-answers.result c.step-out.result.late
          c.step-out.result.now
          (split-at cells k letter within) (length-take-le k cells (omega arith)) one_more
          (c.step-out.ensures.late profile (take k cells) more fits)
          (c.step-out.ensures.now profile (take k cells) more fits)
          (omega (arith, c.requires, c.loop-k.auto.verdicts))
          c.write_late-answers.ensures.list c.write_now-answers.ensures.list
          c.write_late-answers.ensures.count c.write_now-answers.ensures.count
          c.loop-k.invariant.covers;
    }

-- behind the last cell the machine fits the whole list
whole-fits : (machine : LateMachine) (profile : Profile) (cells : List Cell) (k : ℕ) → length cells ≤ k
    → LateFits machine profile (take k cells) → LateFits machine profile cells
whole-fits machine profile cells k past fits =
    subst (λ (l : List Cell). LateFits machine profile l) (take_all k cells past) fits

pub write_late-answers-requires-2 : goal.write_late-answers-requires-2
write_late-answers-requires-2 c = λ answer e.
    let profile = c.args.profile in
    let cells = c.args.cells.now in
    let k = c.loop-k.k in
    let place : k ≡ length cells = omega arith in
    let fits = whole-fits c.loop-k.machine profile cells k (omega arith) c.loop-k.invariant.fits in
    let below = answer_at-below profile cells [] answer (sym (c.finish-end.ensures.late profile cells fits) ∙ e) in
    omega (arith, c.requires, c.loop-k.auto.verdicts)

pub returns : goal.returns
returns c =
    let profile = c.args.profile in
    let cells = c.args.cells.now in
    let k = c.loop-k.k in
    let fits = whole-fits c.loop-k.machine profile cells k (omega arith) c.loop-k.invariant.fits in
    let place : k ≡ length cells = omega arith in
    let whole : take k cells ≡ cells = take_all k cells (omega arith) in
    let by_place = subst (λ (n : ℕ). Covers (λ j. verdict_in profile cells j) c.loop-k.verdicts c.loop-k.answers n
    (unanswered profile (take k cells)))
    place c.loop-k.invariant.covers in
    let covers = subst (λ (l : List Cell). Covers (λ j. verdict_in profile cells j) c.loop-k.verdicts c.loop-k.answers
    (length cells) (unanswered profile l))
    whole by_place in
    let finished = Covers-finish profile cells c.loop-k.verdicts c.write_late-answers-2.new.verdicts c.loop-k.answers
    c.write_late-answers-2.result (length c.args.verdicts.now - 1) c.finish-end.result.late c.finish-end.result.end
    (c.finish-end.ensures.late profile cells fits) (c.finish-end.ensures.end profile cells fits)
    (omega (arith, c.requires, c.loop-k.auto.verdicts)) (omega (arith, c.requires))
    c.write_late-answers-2.ensures.list c.write_late-answers-2.ensures.count covers in
    let counted = finished.counted in
    record {
      each = λ j within. finished.each j (omega arith) (λ e. let no : ⊥ = cc in no);
      once = omega arith;
    }
