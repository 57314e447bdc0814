use Rattle.std.proofs.Common.{refl}
use Rattle.lbk_chunk_reader.specs.Numbered.{numbered}
use Rattle.lbk_chunk_reader.proofs.choosing.cut_fits.Goals as goal

pub returns : goal.returns
returns c = c.fits.ensures (numbered c.args.cut.now) refl refl
