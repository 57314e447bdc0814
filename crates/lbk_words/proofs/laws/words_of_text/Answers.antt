use Rattle.lbk_words.proofs.WellFormedLemmas.{words-utf8}
use Rattle.lbk_words.proofs.laws.words_of_text.Goals as goal

pub returns : goal.returns
returns c = words-utf8
