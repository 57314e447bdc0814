use Rattle.std.proofs.Common.{get_or, bit_and, ap, ◌∙◌}
use Rattle.std.proofs.lemmas.Simd.{get_or-replicate}
use Rattle.lbk_masks.proofs.low_halves.Goals as goal

pub returns : goal.returns
returns c i h = c.both.ensures i h ∙ ap (bit_and (get_or c.args.bytes i 0)) (get_or-replicate 16 i 15 0 h)
