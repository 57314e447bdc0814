use Rattle.lbk_words.proofs.KindTrie.{is-of-kind}
use Rattle.lbk_words.proofs.RowLemmas.{first-row}
use Rattle.lbk_words.proofs.steps.first_row_of.Goals as goal

pub returns : goal.returns
returns c = λ code is. first-row code c.args.kind (is-of-kind code c.args.kind is)
