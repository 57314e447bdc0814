use Rattle.std.proofs.Common.{ℕ, eqb, map, ap, ◌∙◌, arith, w8}
use Rattle.std.proofs.lemmas.Simd.{bitmask_splat}
use Rattle.lbk_masks.specs.Sets.{is_set}
use Rattle.lbk_masks.proofs.BitLemmas.{get_or-lanes, set-mask}
use Rattle.lbk_masks.proofs.equal_to.Goals as goal

pub returns : goal.returns
returns c i =
    let v = c.args.block in
    let p = λ (x : ℕ). eqb x c.args.byte in
    let long = c.fits-block.0 in
    ap (λ n. is_set n i) (bitmask_splat w8 eqb v 16 c.args.byte long (omega arith)) ∙ set-mask (map p v) i ∙ get_or-lanes p v 16 i long
