use Rattle.lbk_chunk_reader.proofs.ReaderLemmas.{given-then}
use Rattle.lbk_chunk_reader.proofs.laws.run_goes_on.Goals as goal

pub returns : goal.returns
returns c = given-then
