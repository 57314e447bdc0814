use Rattle.lbk_rules.proofs.RowLemmas.{row-of}
use Rattle.lbk_rules.proofs.steps.each_side_has_a_row.Goals as goal

pub returns : goal.returns
returns c = row-of
