use Rattle.std.proofs.Common.{◌≡◌, ◌∷◌, [], ◌++◌, ap, ◌∙◌}
use Rattle.std.specs.Str.Iter.{chars_rest}
use Rattle.lbk_rules.specs.Answers.{written}
use Rattle.lbk_rules.specs.Held.{answer_at, late_at}
use Rattle.lbk_values.specs.declared.profile.Profile.TheVariants.{Second}
use Rattle.lbk_rules.specs.StepperFits.{StepperFits}
use Rattle.lbk_rules.proofs.CoverLemmas.{answer_at-below, late_at-below}
use Rattle.lbk_cmd.specs.Deciding.{placed}
use Rattle.lbk_cmd.proofs.Deciding.{Decides-start, Decides-step, Decides-end, Decides-below}
use Rattle.lbk_cmd.proofs.shown.decide_late.Goals as goal

pub loop-c-init : goal.loop-c-init
loop-c-init g c =
    let items = c.into_iter-c-iterator.result in
    let same = c.into_iter-c-iterator.ensures.into_iter_gives in
    let cell = g.C.CellSource.cell_of c.args.cells.now in
    Decides-start (StepperFits g.C.CellSource.cell_of c.start-stepper.result Second cell) Second cell c.args.end
    c.args.text.now c.clear.new.self.items (chars_rest items) c.utf8.text c.requires.some c.start-stepper.ensures c.clear.ensures.items
    (ap chars_rest same ∙ c.chars-c-items.ensures.rest)

pub place-requires : goal.place-requires
place-requires g c =
    let profile = Second in
    let cell = g.C.CellSource.cell_of c.args.cells.now in
    let l = c.loop-c in
    Decides-below (StepperFits g.C.CellSource.cell_of l.stepper profile cell) profile cell c.args.end c.args.text.now l.verdicts.items
    (chars_rest l.c-iterator) (λ cells. late_at profile cells (cell c.in-Some.c) []) c.step-out.result.late
    (λ taken fits short. c.step-out.ensures.late profile cell taken [] fits short) (λ cells. late_at-below profile cells (cell c.in-Some.c) []) c.requires.few l.invariant

pub loop-c-preserved : goal.loop-c-preserved
loop-c-preserved g c =
    let profile = Second in
    let cell = g.C.CellSource.cell_of c.args.cells.now in
    let l = c.loop-c in
    let out = c.step-out.result in
    let step = c.step-out.ensures in
    let pushed : c.push.new.self.items ≡ written out.late l.verdicts.items ++ placed out.now ∷ [] =
    c.in_ok-push.ensures.items ∙ ap (λ v. v ++ c.now_or_none.result ∷ []) c.place.ensures
    ∙ ap (λ v. written out.late l.verdicts.items ++ v ∷ []) c.now_or_none.ensures in
    Decides-step (StepperFits g.C.CellSource.cell_of l.stepper profile cell) (StepperFits g.C.CellSource.cell_of c.step-out.new.self profile cell) profile cell
    c.args.end c.args.text.now l.verdicts.items c.push.new.self.items c.in-Some.c (chars_rest l.c-iterator) (chars_rest c.next.new.self)
    out.now out.late (step.now profile cell) (step.late profile cell) (step.fits profile cell) c.requires.few c.in-Some.ensures.steps.0 pushed l.invariant

pub place-requires-2 : goal.place-requires-2
place-requires-2 g c =
    let profile = Second in
    let cell = g.C.CellSource.cell_of c.args.cells.now in
    let l = c.loop-c in
    Decides-below (StepperFits g.C.CellSource.cell_of l.stepper profile cell) profile cell c.args.end c.args.text.now l.verdicts.items
    (chars_rest l.c-iterator) (λ cells. answer_at profile cells []) c.finish.result.late
    (λ taken fits short. c.finish.ensures.late profile cell taken fits) (λ cells. answer_at-below profile cells []) c.requires.few l.invariant

pub returns : goal.returns
returns g c =
    let profile = Second in
    let cell = g.C.CellSource.cell_of c.args.cells.now in
    let l = c.loop-c in
    let pushed : c.push-2.new.self.items ≡ written c.finish.result.late l.verdicts.items ++ c.args.end ∷ [] =
    c.in_ok-push-2.ensures.items ∙ ap (λ v. v ++ c.args.end ∷ []) c.place-2.ensures in
    Decides-end (StepperFits g.C.CellSource.cell_of l.stepper profile cell) profile cell c.args.end
    c.args.text.now l.verdicts.items c.push-2.new.self.items (chars_rest l.c-iterator) c.finish.result.late (c.finish.ensures.late profile cell)
    c.in-None.ensures.steps.0.0 pushed l.invariant
