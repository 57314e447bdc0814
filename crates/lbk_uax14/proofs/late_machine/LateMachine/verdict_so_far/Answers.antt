use Rattle.std.proofs.Common.{[], ◌∷◌, reverse, sym, ap, ◌∙◌}
use Rattle.lbk_uax14.specs.Chain.{from_cells}
use Rattle.lbk_uax14.proofs.late_machine.LateMachine.verdict_so_far.Goals as goal

pub returns : goal.returns
returns c = λ profile cells fits.
    c.verdict.ensures (reverse cells) [] fits.left_same (sym c.is_second.ensures)
    ∙ ap (λ p. from_cells p (reverse cells) (c.args.cell ∷ [])) fits.profile_same
