use Rattle.std.proofs.Common.{◌≡◌, ℕ, zero, suc, ◌+◌, ◌-◌, ◌≤◌, List, ◌∷◌, ◌++◌, length, get_or, ap, ◌∙◌, arith, length-append}
use Rattle.std.proofs.Math.ListN.{get_or-append}
use Rattle.std.proofs.lemmas.List.{get_or-append_right}
use Rattle.std.proofs.lemmas.Simd.{get_or-chunk, pick_l-range_with_len}
use Rattle.lbk_masks.proofs.one_back.Goals as goal

behind : (before block : List ℕ) (i : ℕ) → length before ≡ 16 → get_or (before ++ block) (15 + i) 0 ≡ get_or (get_or before 15 0 ∷ block) i 0
behind before block zero long = get_or-append before block 0 15 (omega arith)
behind before block (suc i) long =
    get_or-append_right before block 16 (15 + suc i) 0 long (omega arith) ∙ ap (λ n. get_or block n 0) (let e : 15 + suc i - 16 ≡ i = omega arith in e)

pub returns : goal.returns
returns c i h =
    let before = c.args.before in
    let block = c.args.block in
    let long : 15 + 16 ≤ length (before ++ block) = omega (arith, length-append before block, c.fits-before.0, c.fits-block.0) in
    ap (λ l. get_or l i 0) (pick_l-range_with_len 0 (before ++ block) 15 16 long) ∙ get_or-chunk 15 16 (before ++ block) i 0 h ∙ behind before block i c.fits-before.0
