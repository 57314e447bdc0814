use Rattle.lbk_bytes.proofs.WideLemmas.{utf32-some}
use Rattle.lbk_bytes.proofs.utf32.U32Unit.alone.Goals as goal

pub returns : goal.returns
returns c = utf32-some c.args.units.now c.code_of.result c.requires c.code_of.ensures
