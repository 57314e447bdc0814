use Rattle.std.proofs.Common.{arith}
use Rattle.lbk_bytes.proofs.FillsLemmas.{takes-twice}
use Rattle.lbk_bytes.proofs.filling.begin.Goals as goal

pub returns-then-this-ne0 : goal.returns-then-this-ne0
returns-then-this-ne0 g c = takes-twice (omega (arith, c.emoji_first-here.auto.out)) c.emoji_first-here.ensures c.short.ensures
