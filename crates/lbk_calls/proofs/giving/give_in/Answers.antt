use Rattle.std.proofs.Common.{length, arith}
use Rattle.bstr.specs.Utf8.{pieces}
use Rattle.lbk_bytes.specs.Bytes.{end_in}
use Rattle.lbk_bytes.specs.Order.{IsBreak}
use Rattle.lbk_bytes.specs.Reached.{onward_to}
use Rattle.lbk_bytes.proofs.FillsLemmas.{fills-once}
use Rattle.lbk_calls.proofs.UnitsComingLemmas.{bytes-begin, fills-bytes, gives-filled}
use Rattle.lbk_calls.proofs.giving.give_in.Goals as goal

pub returns-then-begun-text : goal.returns-then-begun-text
returns-then-begun-text g c =
    let start = c.start_of-start in
    let begun = c.fill_few-begun in
    c.give_rest.ensures start.result c.args.out.now start.ensures.starts start.ensures.same (omega (arith, begun.auto.out)) begun.ensures.fills

pub returns : goal.returns
returns g c =
    let a = c.args in
    let start = c.start_of-start in
    let begun = c.fill_few-begun in
    let settle = c.settle_end in
    gives-filled IsBreak onward_to end_in pieces _ _ (g.K.KindSource.kinds_of a.table.now) (g.K.KindSource.pairs_of a.table.now) a.text.now a.state.now (bytes-begin (g.K.KindSource.kinds_of a.table.now) (g.K.KindSource.pairs_of a.table.now) a.text.now a.state.now) a.profile
    start.result begun.result a.out.now begun.new.out settle.new.state settle.new.out settle.result
    c.requires.going start.ensures.starts start.ensures.same (omega (arith, begun.auto.out))
    (fills-bytes (g.K.KindSource.kinds_of a.table.now) (g.K.KindSource.pairs_of a.table.now) a.profile a.text.now a.out.now start.result begun.new.out begun.result
    (fills-once (omega (arith, c.requires.room)) (λ room. omega (arith, begun.ensures.fills.within.2, c.if-begun-text.false)) begun.ensures.fills))
    (λ p going order _. settle.ensures.goes_over p going order) settle.ensures.goes
