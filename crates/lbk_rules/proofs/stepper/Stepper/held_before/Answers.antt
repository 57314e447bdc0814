use Rattle.std.proofs.Common.{true, false, length, reverse, sym, ◌∙◌}
use Rattle.std.proofs.lemmas.List.{length-reverse}
use Rattle.lbk_uax14.specs.Facts.{facts}
use Rattle.lbk_uax14.specs.Normal.{normal}
use Rattle.lbk_rules.specs.RowMachineFits.{normals}
use Rattle.lbk_rules.proofs.HoldsLemmas.{answer-by}
use Rattle.lbk_rules.proofs.RowMachineLemmas.{normals-length}
use Rattle.lbk_rules.proofs.stepper.Stepper.held_before.Goals as goal

pub returns : goal.returns
returns g c = λ profile cell taken fits.
    let side = reverse (normals cell taken) in
    let profile_same = c.profile-profile.ensures profile cell taken fits.machine_fits in
    let cell_same = c.cell-cell.ensures profile cell taken fits.machine_fits in
    let left_same = c.left-left.ensures profile cell taken fits.machine_fits in
    record {
      position_same = fits.steps_same ∙ sym (length-reverse (normals cell taken) ∙ normals-length cell taken);
      if_closed = answer-by profile c.profile-profile.result (normal (cell c.args.c)) c.cell-cell.result (facts side) c.left-left.result
          (length side) true c.verdict-if_closed.result profile_same cell_same left_same c.verdict-if_closed.ensures;
      if_open = answer-by profile c.profile-profile.result (normal (cell c.args.c)) c.cell-cell.result (facts side) c.left-left.result
          (length side) false c.verdict-if_open.result profile_same cell_same left_same c.verdict-if_open.ensures;
    }
