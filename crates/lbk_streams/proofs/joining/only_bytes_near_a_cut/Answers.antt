use Rattle.lbk_streams.proofs.NearLemmas.{after-near, before-near, one-after, one-before, safe-near}
use Rattle.lbk_streams.proofs.joining.only_bytes_near_a_cut.Goals as goal

pub returns : goal.returns
returns c = record { place = safe-near; after = after-near; before = before-near; one_after = one-after; one_before = one-before }
