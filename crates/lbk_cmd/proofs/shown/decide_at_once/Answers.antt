use Rattle.std.proofs.Common.{◌≡◌, Some, None, ap, refl, ◌∙◌}
use Rattle.std.specs.Str.Iter.{chars_rest}
use Rattle.lbk_rules.specs.FlatTable.{KnowsTaken}
use Rattle.lbk_rules.specs.Rows.{step_by}
use Rattle.lbk_values.specs.declared.profile.Profile.TheVariants.{First}
use Rattle.lbk_cmd.proofs.Deciding.{Decides-start, Decides-step, Decides-end}
use Rattle.lbk_cmd.proofs.FirstSteps.{knows-more, knows-none, next-place, none-at-end, none-late, told}
use Rattle.lbk_cmd.proofs.shown.decide_at_once.Goals as goal

pub loop-c-init : goal.loop-c-init
loop-c-init g c =
    let items = c.into_iter-c-iterator.result in
    let cell = g.C.CellSource.cell_of c.args.cells.now in
    record {
      place = (knows-none cell).0;
      decides = Decides-start (KnowsTaken cell 0) First cell c.args.end c.args.text.now c.clear.new.self.items (chars_rest items) c.utf8.text c.requires.some
          (knows-none cell) c.clear.ensures.items (ap chars_rest c.into_iter-c-iterator.ensures.into_iter_gives ∙ c.chars-c-items.ensures.rest);
    }

pub loop-c-preserved : goal.loop-c-preserved
loop-c-preserved g c =
    let l = c.loop-c in
    let cell = g.C.CellSource.cell_of c.args.cells.now in
    let step = c.step_at-step.result.now in
    let scalar = c.in-Some.c in
    let verdict = c.verdict_of.result in
    let read = c.step_at-step.ensures.read ∙ ap (λ rows. step_by rows l.row c.kind.result) c.rows_of-steps.ensures in
    record {
      place = next-place cell l.row c.kind.result scalar step l.invariant.place c.kind.ensures read;
      decides = Decides-step (KnowsTaken cell l.row) (KnowsTaken cell step.next) First cell c.args.end c.args.text.now l.verdicts.items c.push.new.self.items
          scalar (chars_rest l.c-iterator) (chars_rest c.next.new.self) (Some verdict) None
          (λ taken others known short. told cell l.row c.kind.result scalar step l.invariant.place c.kind.ensures read verdict c.verdict_of.ensures taken others known)
          (λ taken others known short. none-late cell scalar taken others)
          (λ taken known short. knows-more cell l.row c.kind.result scalar step l.invariant.place c.kind.ensures read taken known)
          c.requires.few c.in-Some.ensures.steps.0 c.in_ok-push.ensures.items l.invariant.decides;
    }

pub returns : goal.returns
returns g c =
    let l = c.loop-c in
    let cell = g.C.CellSource.cell_of c.args.cells.now in
    Decides-end (KnowsTaken cell l.row) First cell c.args.end c.args.text.now l.verdicts.items c.push-2.new.self.items (chars_rest l.c-iterator) None
    (λ taken known. none-at-end cell taken) c.in-None.ensures.steps.0.0 c.in_ok-push-2.ensures.items l.invariant.decides
