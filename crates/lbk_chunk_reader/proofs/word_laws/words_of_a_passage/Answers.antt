use Rattle.lbk_chunk_reader.proofs.Whole.{words-alone}
use Rattle.lbk_chunk_reader.proofs.word_laws.words_of_a_passage.Goals as goal

pub returns : goal.returns
returns c = words-alone
