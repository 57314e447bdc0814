use Rattle.lbk_words.proofs.FreshLemmas.{cut-fresh}
use Rattle.lbk_words.proofs.laws.behind_a_boundary.Goals as goal

pub returns : goal.returns
returns c = cut-fresh
