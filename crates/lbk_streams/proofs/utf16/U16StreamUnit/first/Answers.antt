use Rattle.std.proofs.Common.{arith}
use Rattle.lbk_streams.proofs.FrontLemmas.{closed-apart, utf16-few, utf16-whole}
use Rattle.lbk_streams.proofs.utf16.U16StreamUnit.first.Goals as goal

pub returns-clause-whole : goal.returns-clause-whole
returns-clause-whole c = λ more closed.
    let units = c.args.units.now in
    utf16-whole units more c.front.result c.requires (omega (arith, (c.type_inv.units 0).fits)) (closed-apart units more closed) c.front.ensures

pub returns-clause-few : goal.returns-clause-few
returns-clause-few c = utf16-few c.args.units.now c.front.result c.requires (omega (arith, (c.type_inv.units 0).fits)) c.front.ensures
