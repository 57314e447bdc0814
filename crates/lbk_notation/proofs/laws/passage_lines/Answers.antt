use Rattle.lbk_notation.proofs.Lengths.{one_line, short, says}
use Rattle.lbk_notation.proofs.laws.passage_lines.Goals as goal

pub returns-clause-short : goal.returns-clause-short
returns-clause-short c = short

pub returns-clause-one : goal.returns-clause-one
returns-clause-one c = one_line

pub returns-clause-says : goal.returns-clause-says
returns-clause-says c = says
