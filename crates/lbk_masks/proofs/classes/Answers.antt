use Rattle.std.proofs.Common.{◌≡◌, ◌<◌, ◌/◌, ◌%◌, [], Fits, ap, ap₂, get_or, bit_and, ◌∙◌, arith, w8}
use Rattle.std.proofs.lemmas.Simd.{Each1-get_or}
use Rattle.lbk_masks.specs.Sets.{chosen, picked}
use Rattle.lbk_masks.proofs.ClassLemmas.{halves-by-bits, low-chosen}
use Rattle.lbk_masks.proofs.classes.Goals as goal

pub returns : goal.returns
returns c i h =
    let byte = get_or c.args.bytes i 0 in
    let low = c.chosen-low.ensures i h ∙ ap₂ (λ x y. chosen 32 x y byte) (c.in_rows-a.ensures i h) (c.in_rows-b.ensures i h) in
    let high = c.chosen-high.ensures i h ∙ ap₂ (λ x y. chosen 32 x y byte) (c.in_rows-c.ensures i h) (c.in_rows-d.ensures i h) in
    let fits : byte < 256 = (Each1-get_or (Fits w8) c.args.bytes i 0 (omega (arith, c.fits-bytes.0)) c.fits-bytes.1).fits in
    let halves : get_or c.chosen-halves.result i 0 ≡ picked (get_or c.args.rows.now (byte / 16 % 8) []) byte =
    c.chosen-halves.ensures i h ∙ ap₂ (λ x y. chosen 64 x y byte) low high ∙ halves-by-bits c.args.rows.now byte fits in
    let above = c.low_halves-above.ensures i h ∙ ap (λ n. bit_and n 15) (c.high_halves.ensures i h ∙ ap (λ n. n / 16) halves) in
    c.chosen.ensures i h ∙ ap₂ (λ x y. chosen 128 x y byte) (c.low_halves.ensures i h ∙ ap (λ n. bit_and n 15) halves) above
    ∙ low-chosen (picked (get_or c.args.rows.now (byte / 16 % 8) []) byte) byte
