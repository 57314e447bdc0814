use Rattle.std.proofs.Common.{◌≡◌, ◌+◌, ◌*◌, ◌/◌, ◌<◌, map, length, get_or, replicate, bit_and, refl, ap, ◌∙◌, arith, w8}
use Rattle.std.proofs.lemmas.List.{get_or-map}
use Rattle.std.proofs.lemmas.Nat.{and_le_r}
use Rattle.std.proofs.lemmas.Simd.{Each1-all, Each1-zip2, Each2-splat, SwzOk-from_below, length-zip2, get_or-swz_l_below, zip2_splat}
use lib.Lanes.{zip2}
use Rattle.lbk_masks.proofs.picked.Goals as goal

pub swizzle : goal.swizzle
swizzle c =
    let v = c.args.bytes in
    SwzOk-from_below w8 16 1 16 0 (zip2 bit_and v (replicate 16 15)) refl (omega (arith, length-zip2 bit_and v (replicate 16 15) c.fits-bytes.0))
    (Each1-zip2 bit_and (λ j. j < 16) v (replicate 16 15) (Each2-splat (λ a b. bit_and a b < 16) v 16 15 (Each1-all (λ a. bit_and a 15 < 16) (λ a. omega (arith, and_le_r a 15)) v)))

pub returns : goal.returns
returns c i h =
    let v = c.args.bytes in
    let js = zip2 bit_and v (replicate 16 15) in
    let e : js ≡ map (λ x. bit_and x 15) v = zip2_splat bit_and v 16 15 c.fits-bytes.0 in
    let long : length js ≡ 16 = length-zip2 bit_and v (replicate 16 15) c.fits-bytes.0 ∙ c.fits-bytes.0 in
    let is : get_or js i 0 ≡ bit_and (get_or v i 0) 15 = ap (λ l. get_or l i 0) e ∙ get_or-map (λ x. bit_and x 15) v i 0 0 (omega (arith, c.fits-bytes.0)) in
    let below : get_or js i 0 < 16 = omega (arith, and_le_r (get_or v i 0) 15, is) in
    let place : 16 * ((0 + i) / 16) + get_or js i 0 ≡ bit_and (get_or v i 0) 15 = omega (arith, is) in
    get_or-swz_l_below w8 16 c.args.row 0 js i (omega (arith, long)) below ∙ ap (λ k. get_or c.args.row k 0) place
