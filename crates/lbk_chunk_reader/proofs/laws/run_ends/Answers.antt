use Rattle.lbk_chunk_reader.proofs.ReaderLemmas.{run-bytes, run-chunks}
use Rattle.lbk_chunk_reader.proofs.laws.run_ends.Goals as goal

pub returns-clause-bytes : goal.returns-clause-bytes
returns-clause-bytes c = run-bytes

pub returns-clause-chunks : goal.returns-clause-chunks
returns-clause-chunks c = run-chunks
