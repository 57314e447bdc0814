use Rattle.std.proofs.Common.{◌∷◌, [], map, reverse, sym, ap, ◌∙◌}
use Rattle.lbk_rules.specs.Rows.{left_at}
use Rattle.lbk_uax14.specs.Chain.{from_cells}
use Rattle.lbk_rules.proofs.RowMachineLemmas.{so_far-decides, so_far-held}
use Rattle.lbk_rules.proofs.row_machine.RowMachine.step.Goals as goal

pub returns-clause-held : goal.returns-clause-held
returns-clause-held g c = λ profile cell taken more fits.
    so_far-held profile cell taken c.args.c more c.verdict_of.result
    (c.verdict_of.ensures (from_cells profile (reverse (map cell taken)) (cell c.args.c ∷ [])) (c.step_by-step.ensures.shows profile cell taken fits))

pub returns-clause-decides : goal.returns-clause-decides
returns-clause-decides g c = λ profile cell taken more fits.
    so_far-decides profile cell taken c.args.c more c.verdict_of.result
    (c.verdict_of.ensures (from_cells profile (reverse (map cell taken)) (cell c.args.c ∷ [])) (c.step_by-step.ensures.shows profile cell taken fits))

pub returns-clause-fits : goal.returns-clause-fits
returns-clause-fits g c = λ profile cell taken fits. record {
  cell_same = fits.cell_same;
  profile_same = fits.profile_same;
  row_same = c.step_by-step.ensures.leads profile cell taken fits ∙ ap left_at (sym c.from-self.ensures);
}
