use Rattle.std.proofs.Common.{true, false, reverse, refl, sym, ◌∙◌}
use Rattle.std.proofs.lemmas.List.{length-reverse}
use Rattle.lbk_uax14.specs.LateFits.{steps_of}
use Rattle.lbk_uax14.proofs.WaitingLemmas.{waiting-step}
use Rattle.lbk_uax14.proofs.late_machine.LateMachine.holding.Goals as goal

pub returns-then-holds : goal.returns-then-holds
unfolding steps_of
returns-then-holds c = λ profile cells fits held.
    let m = c.args.self.now in
    waiting-step profile (reverse cells) c.args.cell true _ m.held m.steps m.left (held ∙ c.if-holds.true) refl
    (fits.steps_same ∙ sym (length-reverse cells)) (sym fits.left_same) fits.held_same

pub returns-then-heads : goal.returns-then-heads
unfolding steps_of
returns-then-heads c = λ profile cells fits held.
    let m = c.args.self.now in
    let heads = sym (c.heads.ensures (reverse cells) fits.left_same) ∙ c.if-heads.true in
    waiting-step profile (reverse cells) c.args.cell false true m.held m.steps m.left (held ∙ c.if-holds.false) heads
    (fits.steps_same ∙ sym (length-reverse cells)) (sym fits.left_same) fits.held_same

pub returns : goal.returns
unfolding steps_of
returns c = λ profile cells fits held.
    let m = c.args.self.now in
    let heads = sym (c.heads.ensures (reverse cells) fits.left_same) ∙ c.if-heads.false in
    waiting-step profile (reverse cells) c.args.cell false false m.held m.steps m.left (held ∙ c.if-holds.false) heads
    (fits.steps_same ∙ sym (length-reverse cells)) (sym fits.left_same) fits.held_same
