use Rattle.std.proofs.Common.{sym, arith}
use Rattle.lbk_rules.proofs.FirstByteLemmas.{first-of-four, first-of-three, first-of-two}
use Rattle.lbk_rules.proofs.first_bytes.first_byte.Goals as goal

pub returns-then-code-lt2048-clause-byte : goal.returns-then-code-lt2048-clause-byte
returns-then-code-lt2048-clause-byte c =
    sym (first-of-two c.args.code (omega (arith, c.if-code-lt128.false)) (omega (arith, c.if-code-lt2048.true)))

pub returns-then-code-lt65536-clause-byte : goal.returns-then-code-lt65536-clause-byte
returns-then-code-lt65536-clause-byte c =
    sym (first-of-three c.args.code (omega (arith, c.if-code-lt2048.false)) (omega (arith, c.if-code-lt65536.true)))

pub returns-else-code-lt65536-clause-byte : goal.returns-else-code-lt65536-clause-byte
returns-else-code-lt65536-clause-byte c = sym (first-of-four c.args.code (omega (arith, c.if-code-lt65536.false)))
