use Rattle.std.proofs.Common.{arith}
use Rattle.lbk_scalars.proofs.StandLemmas.{stands-rest}
use Rattle.lbk_bytes.proofs.width.LedThreeOrFourWidth.scalar_at.Goals as goal

pub scalar_of_led_wide-requires-clause-stands : goal.scalar_of_led_wide-requires-clause-stands
scalar_of_led_wide-requires-clause-stands c = stands-rest 0xDF (omega arith) c.args.text.now c.args.at c.requires.known (omega arith)
