use Rattle.std.proofs.Common.{refl}
use Rattle.lbk_rules.specs.Rows.{left_at, row_left}
use Rattle.lbk_rules.proofs.row_machine.RowMachine.start.Goals as goal

pub returns : goal.returns
unfolding left_at row_left
returns g c = record { cell_same = refl; profile_same = refl; row_same = refl }
