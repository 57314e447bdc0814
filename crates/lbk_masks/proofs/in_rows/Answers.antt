use Rattle.std.proofs.Common.{ap₂, get_or, ◌∙◌}
use Rattle.lbk_masks.specs.Sets.{chosen}
use Rattle.lbk_masks.proofs.in_rows.Goals as goal

pub returns : goal.returns
returns c i h =
    c.chosen.ensures i h ∙ ap₂ (λ x y. chosen 16 x y (get_or c.args.bytes i 0)) (c.picked.ensures i h) (c.picked-2.ensures i h)
