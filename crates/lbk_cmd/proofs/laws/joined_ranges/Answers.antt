use Rattle.lbk_cmd.specs.Engines.{lines_of}
use Rattle.lbk_passage.specs.Passages.{passages}
use Rattle.lbk_passage.proofs.Together.{passages-scalars}
use Rattle.lbk_cmd.proofs.Ranging.{ranges-joined, ranges-whole}
use Rattle.lbk_cmd.proofs.laws.joined_ranges.Goals as goal

pub returns-clause-whole : goal.returns-clause-whole
returns-clause-whole c lines profile cell text tos are short = ranges-whole (lines_of lines cell) profile cell text tos (passages-scalars profile cell text) are short

pub returns-clause-range : goal.returns-clause-range
returns-clause-range c lines profile cell text from tos are = ranges-joined (lines_of lines cell) from tos (passages profile cell text) are
