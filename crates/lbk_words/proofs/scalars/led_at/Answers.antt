use Rattle.std.proofs.Common.{length, ap, arith}
use Rattle.lbk_scalars.proofs.StandLemmas.{stands-rest}
use Rattle.lbk_words.proofs.scalars.led_at.Goals as goal

pub scalar_of_led-requires-clause-stands : goal.scalar_of_led-requires-clause-stands
scalar_of_led-requires-clause-stands g c =
    stands-rest 0xDF (omega arith) c.as_bytes-bytes.result.now c.args.at c.as_bytes-bytes.ensures.utf8
    (omega (arith, c.requires.size, c.requires.place, ap length c.as_bytes-bytes.ensures.value))
