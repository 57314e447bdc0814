use Rattle.lbk_chunk_reader.proofs.WordsInParts.{words-in-parts}
use Rattle.lbk_chunk_reader.proofs.word_laws.words_of_parts.Goals as goal

pub returns : goal.returns
returns c = words-in-parts
