use Rattle.std.proofs.Common.{replicate}
use Rattle.lbk_masks.proofs.FoundLemmas.{none-found}
use Rattle.lbk_masks.proofs.found.Found.nothing.Goals as goal

pub returns-clause-found : goal.returns-clause-found
returns-clause-found c = λ sets text. none-found sets c.args.before text (replicate 16 c.args.before)
