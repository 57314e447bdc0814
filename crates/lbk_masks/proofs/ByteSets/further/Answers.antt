use Rattle.std.proofs.Common.{◌≡◌, ℕ, List, zero, suc, ◌+◌, ◌-◌, ◌<◌, ◌∷◌, get_or, bit_and, sym, ap, ap₂, ◌∙◌, arith}
use Rattle.std.proofs.lemmas.Simd.{get_or-replicate}
use Rattle.lbk_masks.specs.declared.ByteSets.{ByteSets}
use Rattle.lbk_masks.specs.Sets.{left_before, left_in, meets, right_in}
use Rattle.lbk_masks.proofs.ClassLemmas.{set-of}
use Rattle.lbk_masks.proofs.FoundLemmas.{left-behind, rest-byte, within}
use Rattle.lbk_masks.proofs.ByteSets.further.Goals as goal

-- the left sets behind those before, as the text has them
behind-is : (sets : ByteSets) (before : ℕ) (text : List ℕ) (at last : ℕ) (left : List ℕ) (i : ℕ) → i < 16 → last ≡ left_before sets before text at
    → ((j : ℕ) → j < 16 → get_or left j 0 ≡ left_in sets (get_or text (at + j) 0)) → get_or (last ∷ left) i 0 ≡ left_before sets before text (at + i)
behind-is sets before text at last left zero few is each = is ∙ ap (left_before sets before text) (let e : at ≡ at + zero = omega arith in e)
behind-is sets before text at last left (suc j) few is each =
    each j (omega arith) ∙ ap (λ n. left_in sets (get_or text n 0)) (let e : at + j ≡ at + suc j - 1 = omega arith in e)
    ∙ sym (left-behind sets before text (at + suc j) (omega arith))

pub returns-clause-found : goal.returns-clause-found
returns-clause-found c = λ before known begins reaches is found.
    let sets = c.args.self.now in
    let text = c.args.text.now in
    let at = c.args.at in
    let lanes : (i : ℕ) → i < 16 → get_or c.block_of-block.result i 0 ≡ get_or text (at + i) 0 = λ i h. c.block_of-block.ensures.lanes i h ∙ rest-byte text at i in
    let left_is : (i : ℕ) → i < 16 → get_or c.picked-left.result i 0 ≡ left_in sets (get_or text (at + i) 0) =
    λ i h. c.picked-left.ensures i h ∙ set-of sets.left sets.classes (c.classes-class.ensures i h) (lanes i h) in
    let right_is : (i : ℕ) → i < 16 → get_or c.picked-right.result i 0 ≡ right_in sets (get_or text (at + i) 0) =
    λ i h. c.picked-right.ensures i h ∙ set-of sets.right sets.classes (c.classes-class.ensures i h) (lanes i h) in
    let behind : (i : ℕ) → i < 16 → get_or c.one_back-behind.result i 0 ≡ left_before sets before text (at + i) =
    λ i h. c.one_back-behind.ensures i h ∙ behind-is sets before text at (get_or c.args.so_far.left 15 0) c.picked-left.result i h is left_is in
    let special_is : (i : ℕ) → i < 16 → get_or c.both-special.result i 0 ≡ bit_and (right_in sets (get_or text (at + i) 0)) 3 =
    λ i h. c.both-special.ensures i h ∙ ap₂ bit_and (right_is i h) (get_or-replicate 16 i 3 0 h) in
    record {
      standing = c.joined.ensures known (λ i. meets (left_before sets before text i) (right_in sets (get_or text i 0))) begins reaches
          (λ i. c.meeting.ensures i ∙ within i 16 _ _ (λ h. ap₂ meets (behind i h) (right_is i h))) found.standing;
      special = c.joined-2.ensures known (λ i. meets (left_before sets before text i) (bit_and (right_in sets (get_or text i 0)) 3)) begins reaches
          (λ i. c.meeting-2.ensures i ∙ within i 16 _ _ (λ h. ap₂ meets (behind i h) (special_is i h))) found.special;
      edges = c.edges_further.ensures text known begins reaches lanes found.edges;
    }

pub returns-clause-left : goal.returns-clause-left
returns-clause-left c = λ before.
    let sets = c.args.self.now in
    let text = c.args.text.now in
    let at = c.args.at in
    let last : 15 < 16 = omega arith in
    c.picked-left.ensures 15 last
    ∙ set-of sets.left sets.classes (c.classes-class.ensures 15 last) (c.block_of-block.ensures.lanes 15 last ∙ rest-byte text at 15)
    ∙ ap (λ n. left_in sets (get_or text n 0)) (let e : at + 15 ≡ at + 16 - 1 = omega arith in e)
    ∙ sym (left-behind sets before text (at + 16) (omega arith))
