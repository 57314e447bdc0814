use Rattle.std.proofs.Common.{◌*◌, ◌/◌, ◌%◌, ◌^◌, ◌&&◌, bit_and, ap, ap₂, ◌∙◌, arith}
use Rattle.lbk_masks.proofs.BitLemmas.{set-and}
use Rattle.lbk_words.proofs.EdgeLemmas.{set-after, set-before}
use Rattle.lbk_masks.specs.Sets.{is_set}
use Rattle.lbk_words.proofs.blocks.between.Goals as goal

pub returns : goal.returns
returns c i few =
    let others = c.args.others in
    set-and c.args.bits (bit_and (others * 2 ^ 1 % 2 ^ 64) (others / 2 ^ 1)) i
    ∙ ap (λ b. is_set c.args.bits i && b)
    (set-and (others * 2 ^ 1 % 2 ^ 64) (others / 2 ^ 1) i ∙ ap₂ (λ a b. a && b) (set-before others i (omega arith)) (set-after others i))
