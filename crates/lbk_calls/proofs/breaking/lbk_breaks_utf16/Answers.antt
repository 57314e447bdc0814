use Rattle.lbk_units.proofs.EncodingLemmas.{breaks-utf16}
use Rattle.lbk_calls.proofs.UnitsComingLemmas.{breaks-given}
use Rattle.lbk_calls.proofs.breaking.lbk_breaks_utf16.Goals as goal

pub returns-clause-well_formed : goal.returns-clause-well_formed
returns-clause-well_formed c = breaks-utf16

pub returns-clause-gives : goal.returns-clause-gives
returns-clause-gives c = c.next_of.ensures _ _ breaks-given
