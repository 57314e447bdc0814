use Rattle.std.proofs.Common.{◌≡◌, ℕ, ◌+◌, Bool, get_or, ap, ◌∙◌, arith}
use Rattle.lbk_masks.specs.Found.{AreBits}
use Rattle.lbk_masks.proofs.FoundLemmas.{inside, none-bits, rest-byte, within}
use Rattle.lbk_masks.proofs.questions.answers.Goals as goal

pub returns : goal.returns
returns g c i few =
    let text = c.args.text.now in
    let holds : ℕ → Bool = g.Q.Question.holds c.args.question in
    let is : ℕ → Bool = λ j. holds (get_or text j 0) in
    let one : AreBits 16 is c.joined-one.result =
    c.joined-one.ensures 0 is (omega arith) (omega arith)
    (λ j. c.of_block.ensures j ∙ within j 16 _ _ (λ h. ap holds (c.block_of.ensures.lanes j h ∙ ap (λ n. get_or text n 0) (let e : j ≡ 0 + j = omega arith in e)))) (none-bits is) in
    let two : AreBits 32 is c.joined-two.result =
    c.joined-two.ensures 16 is (omega arith) (omega arith)
    (λ j. c.of_block-2.ensures j ∙ within j 16 _ _ (λ h. ap holds (c.block_of-2.ensures.lanes j h ∙ rest-byte text 16 j))) one in
    let three : AreBits 48 is c.joined-three.result =
    c.joined-three.ensures 32 is (omega arith) (omega arith)
    (λ j. c.of_block-3.ensures j ∙ within j 16 _ _ (λ h. ap holds (c.block_of-3.ensures.lanes j h ∙ rest-byte text 32 j))) two in
    c.joined.ensures 48 is (omega arith) (omega arith)
    (λ j. c.of_block-4.ensures j ∙ within j 16 _ _ (λ h. ap holds (c.block_of-4.ensures.lanes j h ∙ rest-byte text 48 j))) three i few
    ∙ inside i 64 (is i) few
