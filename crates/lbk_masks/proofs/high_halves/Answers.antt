use Rattle.std.proofs.Common.{◌/◌, ◌^◌, get_or, ap, ◌∙◌, arith}
use Rattle.std.proofs.lemmas.List.{get_or-map}
use Rattle.std.proofs.lemmas.Simd.{zip2_splat}
use Rattle.lbk_masks.proofs.high_halves.Goals as goal

pub returns : goal.returns
returns c i h =
    let v = c.args.bytes in
    ap (λ l. get_or l i 0) (zip2_splat (λ a b. a / 2 ^ b) v 16 4 c.fits-bytes.0)
    ∙ get_or-map (λ x. x / 16) v i 0 0 (omega (arith, c.fits-bytes.0))
