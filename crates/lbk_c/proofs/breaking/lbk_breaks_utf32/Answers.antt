use Rattle.lbk_calls.proofs.UnitsComingLemmas.{breaks-given, breaks-scalars}
use Rattle.lbk_c.proofs.breaking.lbk_breaks_utf32.Goals as goal

pub returns-clause-well_formed : goal.returns-clause-well_formed
returns-clause-well_formed c = λ cell profile all. breaks-scalars profile cell c.args.text.now all

pub returns-clause-gives : goal.returns-clause-gives
returns-clause-gives c = c.next_of.ensures _ _ breaks-given
