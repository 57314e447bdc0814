use Rattle.lbk_passage.proofs.Together.{passages-breaks}
use Rattle.lbk_passage.proofs.laws.segments_end_at_breaks.Goals as goal

pub returns : goal.returns
returns c = passages-breaks
