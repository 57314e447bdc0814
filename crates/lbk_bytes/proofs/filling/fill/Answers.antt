use Rattle.std.proofs.Common.{◌≡◌, length, sym, subst, ⊎_elim, arith}
use Rattle.lbk_bytes.specs.declared.fill_state.FillState.{FillState}
use Rattle.lbk_bytes.specs.Steps.{Fills}
use Rattle.lbk_bytes.proofs.FillsLemmas.{fills-once, fills-twice}
use Rattle.lbk_bytes.proofs.filling.fill.Goals as goal

pub returns-then-begun-out : goal.returns-then-begun-out
returns-then-begun-out g c =
    let begun = c.begin-begun in
    fills-once (omega (arith, c.requires, c.if-start-out.false))
    (λ room. ⊎_elim
    (λ (full : begun.result.count ≡ length begun.new.out). absurd (omega arith))
    (λ ends. ends.1) c.then-begun-out.either)
    begun.ensures

pub returns : goal.returns
returns g c =
    let fills = Fills c.args.profile (g.K.KindSource.kinds_of c.args.table.now) (g.K.KindSource.pairs_of c.args.table.now) c.args.text.now in
    let begun = c.begin-begun in
    subst (fills c.args.out.now c.args.start c.fill_on.new.out) (sym c.copied-2.ensures)
    (fills-twice (omega (arith, c.requires, c.if-start-out.false)) (omega (arith, begun.auto.out)) begun.ensures
    (subst (λ (s : FillState). fills begun.new.out s c.fill_on.new.out c.fill_on.result) c.copied.ensures c.fill_on.ensures))
