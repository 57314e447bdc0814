use Rattle.std.proofs.Common.{refl, arith}
use Rattle.std.specs.Int.Bits.{bit_or}
use Rattle.lbk_bytes.specs.declared.block_marks.Marks.{Marks}
use Rattle.lbk_bytes.proofs.BlockBeginLemmas.{are-marks}
use Rattle.lbk_bytes.proofs.block_marks.marks_ahead.Goals as goal

pub returns : goal.returns
returns c =
    let masks = c.masks-masks in
    let past = c.past_end.result in
    let marks : Marks = record { standing = masks.result.standing; stops = bit_or (bit_or masks.result.special masks.result.strays) past } in
    are-marks c.args.pairs.now c.args.text.now c.args.at c.left_of-before.result masks.result.special masks.result.strays past marks (omega arith) (omega arith)
    c.left_of-before.ensures refl masks.ensures.standing masks.ensures.special masks.ensures.strays c.past_end.ensures
