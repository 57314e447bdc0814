use Rattle.lbk_notation.proofs.Answered.{only_of}
use Rattle.lbk_notation.proofs.laws.one_value.Goals as goal

pub returns : goal.returns
returns c = only_of
