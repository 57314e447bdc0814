use Rattle.lbk_bytes.proofs.BitLemmas.{all-from}
use Rattle.lbk_bytes.proofs.block_marks.past_end.Goals as goal

pub returns : goal.returns
returns c i few = all-from c.args.length c.kept_from.result i c.kept_from.ensures few
