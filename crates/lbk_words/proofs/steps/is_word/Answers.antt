use Rattle.lbk_words.proofs.RowLemmas.{word-at}
use Rattle.lbk_words.proofs.steps.is_word.Goals as goal

pub returns : goal.returns
returns c = word-at c.args.row c.requires
