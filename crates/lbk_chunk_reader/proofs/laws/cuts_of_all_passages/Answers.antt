use Rattle.lbk_chunk_reader.proofs.WholeLemmas.{cuts-whole}
use Rattle.lbk_chunk_reader.proofs.laws.cuts_of_all_passages.Goals as goal

pub returns : goal.returns
returns c = cuts-whole
