use Rattle.lbk_bytes.proofs.CutLemmas.{closed-more}
use Rattle.lbk_streams.proofs.OpenLemmas.{goes-whole}
use Rattle.lbk_streams.proofs.laws.bytes_that_could_go_on.Goals as goal

pub returns-clause-cut : goal.returns-clause-cut
returns-clause-cut c = λ bytes goes. goes-whole bytes goes

pub returns-clause-whole : goal.returns-clause-whole
returns-clause-whole c = λ bytes more some closed. closed-more bytes more some closed
