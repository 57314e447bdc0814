use Rattle.std.proofs.Common.{◌∷◌, reverse, refl, sym, ap, ◌∙◌}
use Rattle.lbk_values.specs.declared.profile.Profile.TheVariants.{First}
use Rattle.lbk_uax14.specs.Facts.{facts}
use Rattle.lbk_uax14.specs.Fits.{Fits}
use Rattle.lbk_uax14.proofs.MachineLemmas.{reverse-snoc, verdict_in-chain}
use Rattle.lbk_uax14.proofs.machine.Machine.step.Goals as goal

pub returns-clause-decides : goal.returns-clause-decides
unfolding Fits
returns-clause-decides c = λ cells more fits.
    c.verdict-verdict.ensures (reverse cells) more fits refl
    ∙ sym (verdict_in-chain First cells (c.args.cell ∷ more))

pub returns-clause-fits : goal.returns-clause-fits
unfolding Fits
returns-clause-fits c = λ cells fits.
    ap facts (reverse-snoc cells c.args.cell) ∙ sym (c.then-self.ensures (reverse cells) fits)
