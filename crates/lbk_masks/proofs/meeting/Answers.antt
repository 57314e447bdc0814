use Rattle.std.proofs.Common.{◌≡◌, ℕ, ◌<◌, ◌≤◌, ◌&&◌, eqb, ltb, not, map, length, get_or, bit_and, ap, ◌∙◌, sym, ⊎_elim, arith, w8}
use Rattle.std.proofs.lemmas.Bool.{cases_lt, le-ltb}
use Rattle.std.proofs.lemmas.Simd.{bitmask_splat, get_or-zip2, length-zip2}
use lib.Lanes.{zip2}
use Rattle.lbk_masks.specs.Sets.{is_set, meets}
use Rattle.lbk_masks.proofs.BitLemmas.{get_or-lanes, set-mask}
use Rattle.lbk_masks.proofs.meeting.Goals as goal

pub returns : goal.returns
returns c i =
    let l = c.args.left in
    let r = c.args.right in
    let both = zip2 bit_and l r in
    let long : length both ≡ 16 = length-zip2 bit_and l r (c.fits-left.0 ∙ sym c.fits-right.0) ∙ c.fits-left.0 in
    let p = λ (x : ℕ). not (eqb x 0) in
    ap (λ n. is_set n i) (bitmask_splat w8 (λ a b. not (eqb a b)) both 16 0 long (omega arith))
    ∙ set-mask (map p both) i ∙ get_or-lanes p both 16 i long
    ∙ ⊎_elim
    (λ (less : i < 16). ap (λ x. ltb i 16 && p x) (get_or-zip2 bit_and l r i 0 0 0 (omega (arith, c.fits-left.0)) (omega (arith, c.fits-right.0))))
    (λ (least : 16 ≤ i). ap (λ b. b && p (get_or both i 0)) (le-ltb i 16 least) ∙ sym (ap (λ b. b && meets (get_or l i 0) (get_or r i 0)) (le-ltb i 16 least)))
    (cases_lt i 16)
