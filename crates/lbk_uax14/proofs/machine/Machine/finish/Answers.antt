use Rattle.std.proofs.Common.{reverse, sym, ◌∙◌}
use Rattle.lbk_values.specs.declared.profile.Profile.TheVariants.{First}
use Rattle.lbk_uax14.specs.Fits.{Fits}
use Rattle.lbk_uax14.proofs.MachineLemmas.{verdict_in-end}
use Rattle.lbk_uax14.proofs.machine.Machine.finish.Goals as goal

pub returns : goal.returns
unfolding Fits
returns c = λ cells fits.
    c.verdict_at_end.ensures First (reverse cells) fits ∙ sym (verdict_in-end First cells)
