use Rattle.std.proofs.Common.{◌+◌, reverse, sym, ap, ◌∙◌}
use Rattle.std.proofs.lemmas.List.{length_push}
use Rattle.lbk_uax14.specs.Facts.{facts}
use Rattle.lbk_uax14.specs.Held.{is_15b}
use Rattle.lbk_uax14.specs.LateFits.{steps_of, waiting}
use Rattle.lbk_uax14.proofs.MachineLemmas.{reverse-snoc}
use Rattle.lbk_uax14.proofs.WaitingLemmas.{now-settled}
use Rattle.lbk_uax14.proofs.late_machine.LateMachine.step.Goals as goal

pub returns-clause-now : goal.returns-clause-now
returns-clause-now c = λ profile cells more fits.
    c.unless_held-now.ensures
    ∙ now-settled profile cells c.args.cell more c.verdict_so_far-verdict.result
    (c.verdict_so_far-verdict.ensures profile cells fits)

pub returns-clause-fits : goal.returns-clause-fits
unfolding steps_of
returns-clause-fits c = λ profile cells fits.
    let back = reverse-snoc cells c.args.cell in
    let holds =
    ap (λ v. is_15b v.rule) (sym (c.verdict_so_far-verdict.ensures profile cells fits)) ∙ sym c.is_15b.ensures in
    record {
      profile_same = fits.profile_same;
      left_same = ap facts back ∙ sym (c.then-self.ensures (reverse cells) fits.left_same);
      steps_same = ap (λ n. n + 1) fits.steps_same ∙ sym (length_push cells c.args.cell);
      held_same = c.holding-self.ensures profile cells fits holds ∙ ap (waiting profile) (sym back);
    }
