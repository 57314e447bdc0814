use Rattle.lbk_passage.proofs.Together.{passages-bytes}
use Rattle.lbk_passage.proofs.laws.bytes_of_passages.Goals as goal

pub returns : goal.returns
returns c = passages-bytes
