use Rattle.std.proofs.Common.{◌+◌, leb, get_or, ap, ◌∙◌}
use Rattle.lbk_masks.proofs.FoundLemmas.{within}
use Rattle.lbk_masks.proofs.edges_further.Goals as goal

pub returns : goal.returns
returns c text known begins reaches lanes are_edges =
    let at = c.args.at in
    record {
      wide = c.joined.ensures known (λ i. leb 128 (get_or text i 0)) begins reaches
          (λ i. c.least.ensures i ∙ within i 16 (leb 128 (get_or c.args.block i 0)) (leb 128 (get_or text (at + i) 0)) (λ h. ap (leb 128) (lanes i h))) are_edges.wide;
      first = c.joined-2.ensures known (λ i. leb 192 (get_or text i 0)) begins reaches
          (λ i. c.least-2.ensures i ∙ within i 16 (leb 192 (get_or c.args.block i 0)) (leb 192 (get_or text (at + i) 0)) (λ h. ap (leb 192) (lanes i h))) are_edges.first;
    }
