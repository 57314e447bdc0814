use Rattle.std.proofs.Common.{arith}
use Rattle.lbk_bytes.proofs.WideLemmas.{utf16-some}
use Rattle.lbk_bytes.proofs.utf16.U16Unit.alone.Goals as goal

pub returns : goal.returns
returns c =
    let units = c.args.units.now in
    utf16-some units c.code_of.result c.from.result c.requires (omega (arith, (c.type_inv.units 0).fits)) c.from.ensures c.code_of.ensures
