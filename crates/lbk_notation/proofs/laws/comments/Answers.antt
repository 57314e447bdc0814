use Rattle.lbk_notation.proofs.Lengths.{commented}
use Rattle.lbk_notation.proofs.laws.comments.Goals as goal

pub returns : goal.returns
returns c = commented
