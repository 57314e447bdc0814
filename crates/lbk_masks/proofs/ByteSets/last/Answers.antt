use Rattle.std.proofs.Common.{◌≡◌, ◌+◌, ◌-◌, sym, subst, ◌∙◌, arith}
use Rattle.std.proofs.lemmas.Simd.{get_or-replicate}
use Rattle.lbk_masks.specs.Found.{AreFound}
use Rattle.lbk_masks.proofs.FoundLemmas.{left-behind}
use Rattle.lbk_masks.proofs.ByteSets.last.Goals as goal

pub returns : goal.returns
returns c before known within reaches found =
    let sets = c.args.self.now in
    let text = c.args.text.now in
    let end = c.args.end in
    let at = end - 16 in
    let left = get_or-replicate 16 15 c.left_of-left.result 0 (omega arith) ∙ c.left_of-left.ensures ∙ sym (left-behind sets before text at (omega arith)) in
    subst (λ n. AreFound sets before text n c.further.result) (let e : at + 16 ≡ end = omega arith in e)
    (c.further.ensures.found before known (omega arith) (omega arith) left (record { standing = found.standing; special = found.special; edges = found.edges }))
