use Rattle.std.proofs.Common.{reverse, sym, ◌∙◌}
use Rattle.lbk_uax14.proofs.MachineLemmas.{verdict_in-end}
use Rattle.lbk_uax14.proofs.late_machine.LateMachine.finish.Goals as goal

pub returns-clause-end : goal.returns-clause-end
returns-clause-end c = λ profile cells fits.
    c.verdict_at_end.ensures profile (reverse cells) fits.left_same ∙ sym (verdict_in-end profile cells)
