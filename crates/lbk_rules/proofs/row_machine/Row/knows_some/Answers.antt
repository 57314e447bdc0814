use Rattle.lbk_rules.specs.Rows.{left_at, row_left}
use Rattle.lbk_rules.proofs.row_machine.Row.knows_some.Goals as goal

pub returns : goal.returns
unfolding left_at row_left
returns c = c.are_some.ensures
