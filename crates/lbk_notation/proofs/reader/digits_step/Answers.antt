use Rattle.std.proofs.Common.{arith}
use Rattle.lbk_notation.proofs.Digits.{open-small, open-scalar, not_scalar, dead-space}
use Rattle.lbk_notation.proofs.reader.digits_step.Goals as goal

pub overflow_mul-result : goal.overflow_mul-result
overflow_mul-result c = omega (arith, open-small c.args.count c.args.number c.requires)

pub overflow_add-result-in-Digit : goal.overflow_add-result-in-Digit
overflow_add-result-in-Digit c = omega (arith, open-small c.args.count c.args.number c.requires)

pub returns-in-None : goal.returns-in-None
returns-in-None c =
    rw c.in-Space.is
    (dead-space c.args.count c.args.number
    (not_scalar c.args.number (open-scalar c.args.count c.args.number c.requires) c.in-None.ensures.cases))
