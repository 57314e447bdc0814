use Rattle.std.proofs.Common.{◌≡◌, ◌-◌, sym, subst, ap, ◌∙◌, arith}
use Rattle.lbk_masks.specs.Bits.{IsLowest}
use Rattle.lbk_bytes.specs.Blocks.{row_before}
use Rattle.lbk_bytes.proofs.blocks.stopped.Goals as goal

pub returns-clause-some : goal.returns-clause-some
returns-clause-some c = λ some.
    let index = c.first_set.result in
    let there = c.behind_byte-2.result in
    let is_at = c.behind_byte-2.ensures.place.1 in
    let same : index ≡ there.at - c.args.at = omega arith in
    (subst (IsLowest c.args.here.left) same c.first_set.ensures.lowest, omega (arith, c.first_set.ensures.within))

pub returns-clause-row : goal.returns-clause-row
returns-clause-row c =
    c.behind_byte-2.ensures.row ∙ ap (row_before c.args.pairs.now c.args.text.now) (sym c.behind_byte-2.ensures.place.1)

pub returns-then-here-eq0-clause-row : goal.returns-then-here-eq0-clause-row
returns-then-here-eq0-clause-row c =
    c.behind_byte.ensures.row ∙ ap (row_before c.args.pairs.now c.args.text.now) (sym c.behind_byte.ensures.place.1)
