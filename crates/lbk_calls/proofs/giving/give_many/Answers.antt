use Rattle.std.proofs.Common.{length, subst, arith}
use Rattle.bstr.specs.Utf8.{pieces}
use Rattle.lbk_bytes.specs.Bytes.{end_in}
use Rattle.lbk_bytes.specs.Order.{IsBreak}
use Rattle.lbk_bytes.specs.Reached.{onward_to}
use Rattle.lbk_calls.specs.Coming.{IsGoing, IsSpent}
use Rattle.lbk_calls.proofs.UnitsComingLemmas.{bytes-begin, fills-bytes, gives-filled, gives-none}
use Rattle.lbk_calls.proofs.giving.give_many.Goals as goal

pub returns-in_default : goal.returns-in_default
returns-in_default g c =
    let a = c.args in
    gives-none IsBreak onward_to end_in pieces _ _ (g.K.KindSource.kinds_of a.table.now) (g.K.KindSource.pairs_of a.table.now) a.text.now a.state.now (bytes-begin (g.K.KindSource.kinds_of a.table.now) (g.K.KindSource.pairs_of a.table.now) a.text.now a.state.now) _ a.out.now
    (subst (λ s. IsSpent s (length a.text.now)) c.plain.ensures c.in_default.ensures)

pub returns : goal.returns
returns g c =
    let a = c.args in
    let start = c.start_of-start in
    let fill = c.fill-here in
    let settle = c.settle in
    gives-filled IsBreak onward_to end_in pieces _ _ (g.K.KindSource.kinds_of a.table.now) (g.K.KindSource.pairs_of a.table.now) a.text.now a.state.now (bytes-begin (g.K.KindSource.kinds_of a.table.now) (g.K.KindSource.pairs_of a.table.now) a.text.now a.state.now) c.in-Some.profile
    start.result fill.result a.out.now fill.new.out settle.new.state settle.new.out settle.result
    (subst (λ s. IsGoing c.in-Some.profile s (length a.text.now)) c.plain.ensures c.in-Some.ensures) start.ensures.starts start.ensures.same (omega (arith, fill.auto.out))
    (fills-bytes (g.K.KindSource.kinds_of a.table.now) (g.K.KindSource.pairs_of a.table.now) c.in-Some.profile a.text.now a.out.now start.result fill.new.out fill.result fill.ensures) settle.ensures.goes_over settle.ensures.goes
