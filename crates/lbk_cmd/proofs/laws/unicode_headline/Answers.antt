use Rattle.lbk_rules.specs.Unicode.{unicode_cell}
use Rattle.lbk_cmd.proofs.Headlines.{headline_by, headline_only_by}
use Rattle.lbk_cmd.proofs.laws.unicode_headline.Goals as goal

pub returns-clause-holds : goal.returns-clause-holds
returns-clause-holds c = headline_by unicode_cell

pub returns-clause-only : goal.returns-clause-only
returns-clause-only c = headline_only_by unicode_cell
