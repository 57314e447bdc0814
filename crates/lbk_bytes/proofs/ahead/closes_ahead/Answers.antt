use Rattle.std.proofs.Common.{◌≡◌, ◌+◌, [], Some, None, map, drop, sym, ap, ◌∙◌, arith}
use Rattle.std.proofs.lemmas.List.{drop_all}
use Rattle.lbk_rules.specs.declared.Cell.{Cell}
use Rattle.lbk_rules.specs.Classes.{hard}
use Rattle.lbk_rules.specs.Normal.{normal}
use Rattle.lbk_rules.specs.Sides.{leaves_closed}
use Rattle.lbk_rules.specs.Units.{units_after}
use Rattle.lbk_bytes.specs.Reached.{scalars_of}
use Rattle.lbk_bytes.proofs.AheadLemmas.{heads-tells, joins-leaves, told_by}
use Rattle.lbk_bytes.proofs.UnitLemmas.{cells-next, cells_on, front-at}
use Rattle.lbk_bytes.proofs.ahead.closes_ahead.Goals as goal

pub returns-in-Some : goal.returns-in-Some
returns-in-Some g c = λ cell are_kinds.
    let text = c.args.rest.now in
    let l = c.loop-at in
    let of = g.U.Unit.pieces_of in
    let found = c.front-found.result in
    let front = front-at of text l.at found c.loop-at-test.true c.front-found.ensures in
    let next = cells-next of cell text l.at found front in
    let x = normal (cell found.scalar) in
    let told : told_by l.fresh x ≡ Some c.in-Some.closes = ap (told_by l.fresh) (sym (c.cell_by_kind-cell.ensures cell are_kinds)) ∙ sym c.in-Some.ensures in
    sym (heads-tells l.fresh x (cells_on of cell (l.at + found.size) text) c.in-Some.closes told)
    ∙ ap (λ cs. leaves_closed (units_after l.fresh cs)) (sym next)
    ∙ l.invariant.same cell are_kinds

pub overflow_add-at : goal.overflow_add-at
overflow_add-at g c =
    let front = front-at g.U.Unit.pieces_of c.args.rest.now c.loop-at.at c.front-found.result c.loop-at-test.true c.front-found.ensures in
    omega (arith, front.within)

pub loop-at-smaller : goal.loop-at-smaller
loop-at-smaller g c =
    let front = front-at g.U.Unit.pieces_of c.args.rest.now c.loop-at.at c.front-found.result c.loop-at-test.true c.front-found.ensures in
    omega (arith, front.some, front.within)

pub loop-at-preserved : goal.loop-at-preserved
loop-at-preserved g c =
    let text = c.args.rest.now in
    let l = c.loop-at in
    let of = g.U.Unit.pieces_of in
    let found = c.front-found.result in
    let front = front-at of text l.at found c.loop-at-test.true c.front-found.ensures in
    record {
      within = front.within;
      same = λ cell are_kinds.
          let same = c.cell_by_kind-cell.ensures cell are_kinds in
          let x = normal (cell found.scalar) in
          let rest = cells_on of cell (l.at + found.size) text in
          let next = cells-next of cell text l.at found front in
          let told : told_by l.fresh x ≡ None = ap (told_by l.fresh) (sym same) ∙ sym c.unit_closes.ensures ∙ c.in_default.is in
          ap (λ b. leaves_closed (units_after b rest)) (c.leaves_fresh-fresh-in-loop-at.ensures ∙ ap (λ (u : Cell). hard u.class) same)
          ∙ sym (joins-leaves l.fresh x rest told)
          ∙ ap (λ cs. leaves_closed (units_after l.fresh cs)) (sym next)
          ∙ l.invariant.same cell are_kinds;
    }

pub returns : goal.returns
returns g c = λ cell are_kinds.
    let text = c.args.rest.now in
    let l = c.loop-at in
    let of = g.U.Unit.pieces_of in
    let ends : of (drop l.at text) ≡ [] = ap of (drop_all l.at text c.loop-at-test.false) ∙ g.met.U.Unit.ends in
    sym (ap (λ ps. leaves_closed (units_after l.fresh (map normal (map cell (scalars_of ps))))) ends)
    ∙ l.invariant.same cell are_kinds
