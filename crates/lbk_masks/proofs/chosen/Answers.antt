use Rattle.std.proofs.Common.{◌≡◌, ℕ, false, cond, eqb, map, length, get_or, replicate, bit_and, ap, ◌∙◌, arith, w8}
use Rattle.std.proofs.lemmas.List.{get_or-map, length-map}
use Rattle.std.proofs.lemmas.Simd.{tops_compared, get_or-sel_l, length-zip2, zip2_splat, map-map}
use lib.Lanes.{zip2, sel_l}
use Rattle.lbk_masks.proofs.chosen.Goals as goal

pub returns : goal.returns
returns c i h =
    let v = c.args.bytes in
    let bit = c.args.bit in
    let low = c.args.low in
    let high = c.args.high in
    let masked = zip2 bit_and v (replicate 16 bit) in
    let long : length masked ≡ 16 = length-zip2 bit_and v (replicate 16 bit) c.fits-bytes.0 ∙ c.fits-bytes.0 in
    let p = λ (x : ℕ). eqb (bit_and x bit) 0 in
    let e = tops_compared w8 eqb masked (replicate 16 0) ∙ zip2_splat eqb masked 16 0 long ∙ ap (map (λ x. eqb x 0)) (zip2_splat bit_and v 16 bit c.fits-bytes.0) ∙ map-map (λ x. eqb x 0) (λ x. bit_and x bit) v in
    ap (λ ms. get_or (sel_l ms low high) i 0) e
    ∙ get_or-sel_l (map p v) low high i 0 (omega (arith, length-map v p, c.fits-bytes.0)) (omega (arith, c.fits-low.0)) (omega (arith, c.fits-high.0))
    ∙ ap (λ b. cond b (get_or low i 0) (get_or high i 0)) (get_or-map p v i 0 false (omega (arith, c.fits-bytes.0)))
