use Rattle.std.proofs.Common.{◌≡◌, ◌+◌, suc, take, subst, arith}
use Rattle.std.specs.Str.Parse.{AllDigits}
use Rattle.lbk_ucd.proofs.Numbers.{more-digits}
use Rattle.lbk_ucd.proofs.published.digits_ahead.Goals as goal

pub loop-len-preserved : goal.loop-len-preserved
loop-len-preserved c =
    let text = c.args.bytes.now in
    let next : suc c.loop-len.len ≡ c.loop-len.len + 1 = omega arith in (
      omega (arith, c.loop-len-test.true),
      subst (λ n. AllDigits 10 (take n text)) next
          (more-digits text c.loop-len.len c.loop-len-test.true (c.if-is_ascii_digit.ensures.bound) c.loop-len.invariant.1),
    )
