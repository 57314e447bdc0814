use Rattle.std.proofs.Common.{length, sym, subst}
use Rattle.lbk_cmd.specs.Signing.{IsCut}
use Rattle.lbk_cmd.proofs.Signing.{text_cut}
use Rattle.lbk_cmd.proofs.signed.push_signed.Goals as goal

pub push_text-requires : goal.push_text-requires
push_text-requires g c =
    subst (IsCut 0 (length c.args.text.now)) (sym c.new.ensures) (text_cut c.args.profile (g.C.CellSource.cell_of c.args.cells.now) c.args.text.now c.utf8.text)
