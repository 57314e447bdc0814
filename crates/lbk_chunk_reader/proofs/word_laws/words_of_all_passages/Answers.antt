use Rattle.lbk_chunk_reader.proofs.Whole.{words-whole}
use Rattle.lbk_chunk_reader.proofs.word_laws.words_of_all_passages.Goals as goal

pub returns : goal.returns
returns c = words-whole
