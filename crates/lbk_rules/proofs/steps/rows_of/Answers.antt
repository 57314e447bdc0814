use Rattle.std.proofs.Common.{sym, ap}
use Rattle.lbk_rules.specs.Rows.{steps_in}
use Rattle.lbk_rules.proofs.steps.rows_of.Goals as goal

pub returns-in-First : goal.returns-in-First
returns-in-First c = ap steps_in (sym c.in-First.is)

pub returns-in-Second : goal.returns-in-Second
returns-in-Second c = ap steps_in (sym c.in-Second.is)
