use Rattle.std.proofs.Common.{sym, arith}
use Rattle.bstr.specs.Utf8.{pieces}
use Rattle.lbk_bytes.specs.Bytes.{end_in}
use Rattle.lbk_bytes.specs.Order.{IsBreak}
use Rattle.lbk_bytes.specs.Reached.{onward_to}
use Rattle.lbk_bytes.proofs.FillsLemmas.{fills-twice}
use Rattle.lbk_calls.proofs.UnitsComingLemmas.{bytes-begin, fills-bytes, gives-filled}
use Rattle.lbk_calls.proofs.giving.give_rest.Goals as goal

pub returns : goal.returns
returns g c = λ start old starts same room few.
    let a = c.args in
    let on = c.fill_on-here in
    let settle = c.settle in
    gives-filled IsBreak onward_to end_in pieces _ _ (g.K.KindSource.kinds_of a.table.now) (g.K.KindSource.pairs_of a.table.now) a.text.now a.state.now (bytes-begin (g.K.KindSource.kinds_of a.table.now) (g.K.KindSource.pairs_of a.table.now) a.text.now a.state.now) a.profile
    start on.result old on.new.out settle.new.state settle.new.out settle.result c.requires.going starts same (omega (arith, on.auto.out, room))
    (fills-bytes (g.K.KindSource.kinds_of a.table.now) (g.K.KindSource.pairs_of a.table.now) a.profile a.text.now old start on.new.out on.result (fills-twice (omega (arith, c.requires.some, room)) (sym room) few on.ensures))
    settle.ensures.goes_over settle.ensures.goes
