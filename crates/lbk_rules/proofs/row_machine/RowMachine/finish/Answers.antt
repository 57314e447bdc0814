use Rattle.std.proofs.Common.{reverse, ap, sym, ◌∙◌}
use Rattle.lbk_rules.specs.RowMachineFits.{normals}
use Rattle.lbk_rules.proofs.RowMachineLemmas.{end-must, end-normal}
use Rattle.lbk_rules.proofs.row_machine.RowMachine.finish.Goals as goal

pub returns-then-knows_some : goal.returns-then-knows_some
returns-then-knows_some g c = λ profile cell taken fits.
    let some = ap (λ left. left.empty) fits.row_same ∙ c.knows_some.ensures c.if-knows_some.true in
    end-normal profile cell taken _ (sym (end-must profile (reverse (normals cell taken)) some))

pub returns : goal.returns
returns g c = λ profile cell taken fits.
    end-normal profile cell taken c.verdict_at_end.result
    (c.verdict_at_end.ensures profile (reverse (normals cell taken)) (c.left.ensures profile cell taken fits))
