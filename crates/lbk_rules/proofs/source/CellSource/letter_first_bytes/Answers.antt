use Rattle.std.proofs.Common.{not}
use Rattle.lbk_rules.proofs.FirstByteLemmas.{none-known}
use Rattle.lbk_rules.proofs.source.CellSource.letter_first_bytes.Goals as goal

pub returns : goal.returns
returns g c = none-known (λ cell. not cell.letter) (g.Self.CellSource.cell_of c.args.self.now)
