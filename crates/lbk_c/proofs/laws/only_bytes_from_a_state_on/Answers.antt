use Rattle.std.proofs.Common.{ap}
use Rattle.bstr.specs.Utf8.{pieces}
use Rattle.lbk_calls.specs.Coming.{onward_in}
use Rattle.lbk_calls.specs.State.{goes_on, plain}
use Rattle.lbk_bytes.specs.Reached.{onward_all, position_end_in}
use Rattle.lbk_units.specs.Units.{pieces_of_utf16, pieces_of_utf32}
use Rattle.lbk_calls.proofs.UnitsComingLemmas.{units-other}
use Rattle.lbk_words.specs.Words.{parts_of, scalars_of, words_among}
use Rattle.lbk_c.proofs.laws.only_bytes_from_a_state_on.Goals as goal

pub returns-clause-breaks : goal.returns-clause-breaks
returns-clause-breaks c = λ cell kinds pairs text other state. units-other (onward_in state.profile) pieces cell kinds pairs text other (plain state)

pub returns-clause-utf16 : goal.returns-clause-utf16
returns-clause-utf16 c = λ cell kinds pairs text other state. units-other (onward_in state.profile) pieces_of_utf16 cell kinds pairs text other (plain state)

pub returns-clause-utf32 : goal.returns-clause-utf32
returns-clause-utf32 c = λ cell kinds pairs text other state. units-other (onward_in state.profile) pieces_of_utf32 cell kinds pairs text other (plain state)

pub returns-clause-positions : goal.returns-clause-positions
returns-clause-positions c = λ pieces_of cell kinds pairs text other state. units-other (onward_all (position_end_in (goes_on state.profile))) pieces_of cell kinds pairs text other (plain state)

pub returns-clause-words : goal.returns-clause-words
returns-clause-words c = λ text other at same. ap (λ bytes. words_among at (pieces bytes) (parts_of (scalars_of (pieces bytes)))) same
