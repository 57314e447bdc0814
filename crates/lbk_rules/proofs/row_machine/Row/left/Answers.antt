use Rattle.lbk_rules.specs.Rows.{left_at, row_left}
use Rattle.lbk_rules.proofs.row_machine.Row.left.Goals as goal

pub returns : goal.returns
unfolding left_at row_left
returns c = c.known_of.ensures
