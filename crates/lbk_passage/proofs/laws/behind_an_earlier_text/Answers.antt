use Rattle.lbk_passage.proofs.Marking.{behind_earlier}
use Rattle.lbk_passage.proofs.laws.behind_an_earlier_text.Goals as goal

pub returns : goal.returns
returns c = behind_earlier
