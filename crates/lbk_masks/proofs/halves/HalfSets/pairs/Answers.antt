use Rattle.std.proofs.Common.{◌≡◌, ℕ, ◌+◌, Bool, get_or, ap, ap₂, ◌∙◌, arith}
use Rattle.lbk_masks.specs.Found.{AreBits}
use Rattle.lbk_masks.specs.Sets.{meets, sets_in}
use Rattle.lbk_masks.proofs.FoundLemmas.{none-bits, rest-byte, within}
use Rattle.lbk_masks.proofs.halves.HalfSets.pairs.Goals as goal

pub returns : goal.returns
returns c i few =
    let text = c.args.text.now in
    let pair : ℕ → ℕ → Bool = λ a b. meets (sets_in c.args.self.now a) (sets_in c.args.after.now b) in
    let is : ℕ → Bool = λ j. pair (get_or text j 0) (get_or text (j + 1) 0) in
    let next : (at j : ℕ) → get_or text (at + 1 + j) 0 ≡ get_or text (at + j + 1) 0 =
    λ at j. ap (λ n. get_or text n 0) (let e : at + 1 + j ≡ at + j + 1 = omega arith in e) in
    let one : AreBits 16 is c.joined-one.result =
    c.joined-one.ensures 0 is (omega arith) (omega arith)
    (λ j. c.pairs_of.ensures j
    ∙ within j 16 _ _ (λ h. ap₂ pair (c.block_of.ensures.lanes j h ∙ ap (λ n. get_or text n 0) (let e : j ≡ 0 + j = omega arith in e)) (c.block_of-2.ensures.lanes j h ∙ rest-byte text 1 j ∙ next 0 j)))
    (none-bits is) in
    let two : AreBits 32 is c.joined-two.result =
    c.joined-two.ensures 16 is (omega arith) (omega arith)
    (λ j. c.pairs_of-2.ensures j
    ∙ within j 16 _ _ (λ h. ap₂ pair (c.block_of-3.ensures.lanes j h ∙ rest-byte text 16 j) (c.block_of-4.ensures.lanes j h ∙ rest-byte text 17 j ∙ next 16 j))) one in
    let three : AreBits 48 is c.joined-three.result =
    c.joined-three.ensures 32 is (omega arith) (omega arith)
    (λ j. c.pairs_of-3.ensures j
    ∙ within j 16 _ _ (λ h. ap₂ pair (c.block_of-5.ensures.lanes j h ∙ rest-byte text 32 j) (c.block_of-6.ensures.lanes j h ∙ rest-byte text 33 j ∙ next 32 j))) two in
    c.joined.ensures 48 is (omega arith) (omega arith)
    (λ j. c.pairs_of-4.ensures j
    ∙ within j 16 _ _ (λ h. ap₂ pair (c.block_of-7.ensures.lanes j h ∙ rest-byte text 47 j) (c.block_of-8.ensures.lanes j h ∙ rest-byte text 48 j ∙ next 47 j))) three i few
