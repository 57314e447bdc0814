use Rattle.std.proofs.Common.{◌∷◌, sym, ap, ◌∙◌}
use Rattle.lbk_uax14.specs.Chain.{from_cells}
use Rattle.lbk_uax14.specs.Classes.{hard}
use Rattle.lbk_uax14.specs.Facts.{closes_in}
use Rattle.lbk_uax14.specs.Units.{units_after}
use Rattle.lbk_uax14.proofs.WaitingLemmas.{answer-none, answer-waiting}
use Rattle.lbk_uax14.proofs.late_machine.LateMachine.answer.Goals as goal

pub returns-in-None : goal.returns-in-None
returns-in-None c = λ profile cells more fits closes.
    answer-none profile cells more (sym fits.held_same ∙ c.in-None.is)

pub returns-in-Some : goal.returns-in-Some
returns-in-Some c = λ profile cells more fits closes.
    let held = c.in-Some.held in
    let q = held.quotation in
    answer-waiting profile cells more held c.args.closes c.verdict-verdict.result (sym fits.held_same ∙ c.in-Some.is)
    closes
    (λ side after left closed.
    c.verdict-verdict.ensures side after left
    (ap (λ p. closes_in p (units_after (hard q.class) after)) fits.profile_same ∙ closed)
    ∙ ap (λ p. from_cells p side (q ∷ after)) fits.profile_same)
