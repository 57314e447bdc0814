use Rattle.std.proofs.Common.{◌≡◌, ◌+◌, get_or, ap, ◌∙◌, arith}
use Rattle.lbk_masks.specs.Found.{AreEdges}
use Rattle.lbk_masks.proofs.FoundLemmas.{none-edges, rest-byte}
use Rattle.lbk_masks.proofs.strays.Goals as goal

pub returns : goal.returns
returns c =
    let text = c.args.text.now in
    let one : AreEdges text 16 c.edges_further-one.result =
    c.edges_further-one.ensures text 0 (omega arith) (omega arith) (λ i h. c.block_of.ensures.lanes i h ∙ ap (λ n. get_or text n 0) (let e : i ≡ 0 + i = omega arith in e)) (none-edges text) in
    let two = c.edges_further-two.ensures text 16 (omega arith) (omega arith) (λ i h. c.block_of-2.ensures.lanes i h ∙ rest-byte text 16 i) one in
    let three = c.edges_further-three.ensures text 32 (omega arith) (omega arith) (λ i h. c.block_of-3.ensures.lanes i h ∙ rest-byte text 32 i) two in
    c.strays_by.ensures text (c.edges_further.ensures text 48 (omega arith) (omega arith) (λ i h. c.block_of-4.ensures.lanes i h ∙ rest-byte text 48 i) three)
