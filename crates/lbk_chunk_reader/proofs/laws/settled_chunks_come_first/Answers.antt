use Rattle.lbk_chunk_reader.proofs.SettledLemmas.{settled-first}
use Rattle.lbk_chunk_reader.proofs.laws.settled_chunks_come_first.Goals as goal

pub returns : goal.returns
returns c l cuts more chunks all settled rising are = settled-first l cuts more chunks all settled rising are
