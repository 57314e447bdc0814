use Rattle.lbk_passage.specs.Lines.{segmented_passage}
use Rattle.lbk_cmd.specs.Show.{shown_passage}
use Rattle.lbk_cmd.proofs.Joined.{joined-lines, joined-signed}
use Rattle.lbk_cmd.proofs.Relabeling.{differs}
use Rattle.lbk_cmd.proofs.laws.joined_lines.Goals as goal

pub returns-clause-mark : goal.returns-clause-mark
returns-clause-mark c = joined-signed

pub returns-clause-show : goal.returns-clause-show
returns-clause-show c = joined-lines (λ start ms. shown_passage ms)

pub returns-clause-segment : goal.returns-clause-segment
returns-clause-segment c = λ profile cell. joined-lines (segmented_passage cell) profile cell

pub returns-clause-label : goal.returns-clause-label
returns-clause-label c = differs
