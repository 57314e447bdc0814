use Rattle.std.proofs.Common.{◌%◌, ◌^◌, leb, map, replicate, ap, ◌∙◌, arith, w8}
use Rattle.std.proofs.lemmas.List.{length-map}
use Rattle.std.proofs.lemmas.Simd.{mask_l-mod, tops_compared, zip2_splat_left}
use lib.Lanes.{mask_l}
use Rattle.lbk_masks.specs.Sets.{is_set}
use Rattle.lbk_masks.proofs.BitLemmas.{get_or-lanes, set-mask}
use Rattle.lbk_masks.proofs.least.Goals as goal

pub returns : goal.returns
returns c i =
    let v = c.args.block in
    let p = leb c.args.byte in
    let long = c.fits-block.0 in
    ap (λ ms. is_set (mask_l ms % 2 ^ 64) i) (tops_compared w8 leb (replicate 16 c.args.byte) v ∙ zip2_splat_left leb c.args.byte 16 v long)
    ∙ ap (λ n. is_set n i) (mask_l-mod (map p v) 64 (omega (arith, length-map v p, long)))
    ∙ set-mask (map p v) i ∙ get_or-lanes p v 16 i long
