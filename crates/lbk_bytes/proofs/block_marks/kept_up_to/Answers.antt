use Rattle.std.proofs.Common.{arith}
use Rattle.lbk_bytes.proofs.BitLemmas.{all-below}
use Rattle.lbk_bytes.proofs.block_marks.kept_up_to.Goals as goal

pub returns-then-count-eq-BLOCK : goal.returns-then-count-eq-BLOCK
returns-then-count-eq-BLOCK c = all-below c.args.bits c.args.count (omega arith)
