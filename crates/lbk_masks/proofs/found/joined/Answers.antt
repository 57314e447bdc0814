use Rattle.std.proofs.Common.{◌-◌, ◌&&◌, ◌||◌, leb, ap, ap₂, ◌∙◌}
use Rattle.lbk_masks.proofs.BitLemmas.{set-or, set-raised}
use Rattle.lbk_masks.proofs.FoundLemmas.{bits-joined}
use Rattle.lbk_masks.proofs.found.joined.Goals as goal

pub returns : goal.returns
returns c known is begins reaches each below i few =
    let bits = c.args.bits in
    let more = c.args.more in
    let at = c.args.at in
    set-or bits _ i ∙ ap₂ (λ x y. x || y) (below i few) (set-raised more at i few ∙ ap (λ b. leb at i && b) (each (i - at)))
    ∙ bits-joined known at i is begins reaches
