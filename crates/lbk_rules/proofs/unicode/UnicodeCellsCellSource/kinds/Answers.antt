use Rattle.lbk_rules.proofs.UnicodeTables.{near-kind}
use Rattle.lbk_rules.proofs.unicode.UnicodeCellsCellSource.kinds.Goals as goal

pub returns : goal.returns
returns c = λ code scalar below. near-kind code below
