use Rattle.std.proofs.Common.{arith}
use lib.Utf8.{low_scalar}
use Rattle.lbk_rules.proofs.kind_source.KindSource.kind_of_byte.Goals as goal

pub kind_at-requires : goal.kind_at-requires
kind_at-requires g c = low_scalar c.from.result (omega (arith, c.from.ensures))
