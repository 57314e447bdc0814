use Rattle.lbk_units.specs.Units.{pieces_of_utf16}
use Rattle.lbk_units.proofs.EncodingLemmas.{breaks-among, positions-utf16}
use Rattle.lbk_calls.proofs.UnitsComingLemmas.{positions-given}
use Rattle.lbk_c.proofs.breaking.lbk_positions_utf16.Goals as goal

pub returns : goal.returns
returns c = record {
  gives = c.next_of.ensures _ _ positions-given;
  breaks = λ cell profile. breaks-among profile cell (pieces_of_utf16 c.args.text.now);
  well_formed = positions-utf16;
}
