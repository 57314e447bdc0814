use Rattle.std.proofs.Common.{w64}
use Rattle.std.specs.Int.{trailing_zeros}
use Rattle.lbk_masks.proofs.KeptLemmas.{low-below, lowest}
use Rattle.lbk_masks.proofs.bits.first_set.Goals as goal

pub returns-clause-within : goal.returns-clause-within
returns-clause-within c = low-below (trailing_zeros w64 c.args.bits)

pub returns-clause-lowest : goal.returns-clause-lowest
returns-clause-lowest c = lowest c.args.bits c.ranges.bits.fits
