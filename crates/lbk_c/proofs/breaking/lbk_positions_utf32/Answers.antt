use Rattle.lbk_units.specs.Units.{pieces_of_utf32}
use Rattle.lbk_units.proofs.EncodingLemmas.{breaks-among}
use Rattle.lbk_calls.proofs.UnitsComingLemmas.{positions-given}
use Rattle.lbk_c.proofs.breaking.lbk_positions_utf32.Goals as goal

pub returns-clause-breaks : goal.returns-clause-breaks
returns-clause-breaks c = λ cell profile. breaks-among profile cell (pieces_of_utf32 c.args.text.now)

pub returns-clause-gives : goal.returns-clause-gives
returns-clause-gives c = c.next_of.ensures _ _ positions-given
