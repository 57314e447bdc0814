use Rattle.std.proofs.Common.{length, subst, arith}
use Rattle.lbk_calls.specs.Coming.{IsGoing, IsSpent}
use Rattle.lbk_calls.proofs.UnitsComingLemmas.{gives-filled, gives-none, units-begin}
use Rattle.lbk_calls.proofs.giving.next_of.Goals as goal

pub returns-in_default : goal.returns-in_default
returns-in_default g c = λ whole part_of given.
    let T = g.T.Given in
    let a = c.args in
    gives-none g.T.Target.entry g.T.Target.onward T.end_in g.U.Unit.pieces_of _ _ (g.K.KindSource.kinds_of a.table.now) (g.K.KindSource.pairs_of a.table.now) a.text.now a.state.now
    (units-begin g.T.Target.onward T.end_in g.U.Unit.pieces_of whole part_of given (g.K.KindSource.kinds_of a.table.now) (g.K.KindSource.pairs_of a.table.now) a.text.now a.state.now) _ a.out.now
    (subst (λ s. IsSpent s (length a.text.now)) c.plain.ensures c.in_default.ensures)

pub returns : goal.returns
returns g c = λ whole part_of given.
    let T = g.T.Given in
    let a = c.args in
    let start = c.start_of-start in
    let fill = c.fill-here in
    let settle = c.settle in
    gives-filled g.T.Target.entry g.T.Target.onward T.end_in g.U.Unit.pieces_of _ _ (g.K.KindSource.kinds_of a.table.now) (g.K.KindSource.pairs_of a.table.now) a.text.now a.state.now
    (units-begin g.T.Target.onward T.end_in g.U.Unit.pieces_of whole part_of given (g.K.KindSource.kinds_of a.table.now) (g.K.KindSource.pairs_of a.table.now) a.text.now a.state.now) c.in-Some.profile
    start.result fill.result a.out.now fill.new.out settle.new.state settle.new.out settle.result
    (subst (λ s. IsGoing c.in-Some.profile s (length a.text.now)) c.plain.ensures c.in-Some.ensures) start.ensures.starts start.ensures.same (omega (arith, fill.auto.out))
    fill.ensures settle.ensures.goes_over settle.ensures.goes
