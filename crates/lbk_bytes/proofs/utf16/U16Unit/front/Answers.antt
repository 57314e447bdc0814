use Rattle.std.proofs.Common.{subst, ◌∙◌, arith}
use Rattle.std.specs.Char.{IsScalar}
use Rattle.lbk_bytes.proofs.WideLemmas.{utf16-alone}
use Rattle.lbk_bytes.proofs.utf16.U16Unit.front.Goals as goal

pub returns-in-Some : goal.returns-in-Some
returns-in-Some c =
    let units = c.args.units.now in
    let found = c.in-Some.ensures.value in
    utf16-alone units c.in-Some.scalar c.requires (omega (arith, (c.type_inv.units 0).fits)) (subst IsScalar c.from.ensures found.0) (found.1 ∙ c.from.ensures)
