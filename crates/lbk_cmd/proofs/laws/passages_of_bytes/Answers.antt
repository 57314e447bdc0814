use Rattle.std.proofs.Common.{refl}
use Rattle.lbk_cmd.proofs.Owning.{lent_is, read_once}
use Rattle.lbk_cmd.proofs.laws.passages_of_bytes.Goals as goal

pub returns-clause-once : goal.returns-clause-once
returns-clause-once c = read_once

pub returns-clause-lent : goal.returns-clause-lent
returns-clause-lent c = λ s ms p of. lent_is s ms p s.cell p.start of refl refl
