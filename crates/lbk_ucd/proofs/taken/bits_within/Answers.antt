use Rattle.std.proofs.Common.{◌+◌, ◌*◌}
use Rattle.lbk_ucd.proofs.TakenLemmas.{between}
use Rattle.lbk_ucd.proofs.taken.bits_within.Goals as goal

pub returns : goal.returns
returns c = λ i few.
    between c.bits_from.result c.bits_from-2.result c.args.first c.args.last (64 * c.args.word + i) i c.bits_from-2.type_inv few
    (c.bits_from.ensures i few) (c.bits_from-2.ensures i few)
