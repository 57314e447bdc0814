use Rattle.lbk_uax14.specs.Ends.{ends_line}
use Rattle.lbk_rules.proofs.FirstByteLemmas.{none-known}
use Rattle.lbk_rules.proofs.source.CellSource.quiet_first_bytes.Goals as goal

pub returns : goal.returns
returns g c = none-known (λ cell. ends_line cell.class) (g.Self.CellSource.cell_of c.args.self.now)
