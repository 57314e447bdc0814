use Rattle.lbk_bytes.proofs.UnitLemmas.{utf8-front}
use Rattle.lbk_bytes.proofs.utf8.U8Unit.front.Goals as goal

pub returns : goal.returns
returns c = utf8-front c.args.units.now c.decode_lossy-scalar.result.0 c.decode_lossy-scalar.result.1 c.requires c.decode_lossy-scalar.ensures.char c.decode_lossy-scalar.ensures.size
