use Rattle.std.proofs.Common.{arith}
use Rattle.lbk_rules.proofs.FirstByteLemmas.{first-in-order}
use Rattle.lbk_rules.specs.FirstBytes.{first_byte}
use Rattle.lbk_rules.proofs.first_bytes.leave_out.Goals as goal

pub returns-clause-gone : goal.returns-clause-gone
returns-clause-gone c = λ code from to scalar.
    c.loop-byte.invariant.gone (first_byte code) (first-in-order c.args.first code from)
    (omega (arith, first-in-order code c.args.last to, c.first_byte-byte-end.ensures.byte, c.loop-byte-test.false))
