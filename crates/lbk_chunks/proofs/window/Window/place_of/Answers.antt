use Rattle.std.proofs.Common.{arith, refl}
use Rattle.lbk_chunks.specs.Chunks.{cuts_past}
use Rattle.lbk_chunks.proofs.WindowLemmas.{place-none, place-on, place-there}
use Rattle.lbk_chunks.proofs.window.Window.place_of.Goals as goal

pub loop-here-init : goal.loop-here-init
loop-here-init g c = λ cell cuts words rising kept home stands.
    let n = c.near-here.ensures in
    let m = n.mark cell cuts rising kept in
    (m.0, n.before home, m.1)

pub loop-here-preserved : goal.loop-here-preserved
loop-here-preserved g c =
    let f = c.fill_cuts-filled in
    let here = c.loop-here.here in
    λ cell cuts words rising kept home stands. (
    let m = c.loop-here.invariant cell cuts words rising kept home stands in
    let one = f.ensures.room in
    let first = f.ensures.first cell (cuts_past here.at cuts) m.2 m.0.ahead in
    let on = place-on cell (g.K.KindSource.kinds_of c.args.table.now) (g.K.KindSource.pairs_of c.args.table.now) c.args.text.now cuts rising c.args.at words stands here _ f.new.out f.result m.0 c.loop-here-test.true
    first.0 (omega (arith, one, c.if-filled-eq0.false)) (omega (arith, f.auto.out)) refl refl
    (f.ensures.counted (omega (arith, c.if-filled-eq0.false)) (omega (arith, one, c.if-filled-eq0.false))) in
    (on.0, on.1, first.1))

pub returns-then-filled-eq0 : goal.returns-then-filled-eq0
returns-then-filled-eq0 g c = λ cell cuts words rising kept home stands.
    let f = c.fill_cuts-filled in
    let here = c.loop-here.here in
    let m = c.loop-here.invariant cell cuts words rising kept home stands in
    absurd (place-none cell (g.K.KindSource.kinds_of c.args.table.now) (g.K.KindSource.pairs_of c.args.table.now) c.args.text.now cuts rising c.args.at words stands here f.new.out f.result c.loop-here-test.true
    (f.ensures.first cell (cuts_past here.at cuts) m.2 m.0.ahead).0 c.if-filled-eq0.true)

pub returns : goal.returns
returns g c = λ cell cuts words rising kept home stands.
    let m = c.loop-here.invariant cell cuts words rising kept home stands in
    place-there cell (g.K.KindSource.kinds_of c.args.table.now) (g.K.KindSource.pairs_of c.args.table.now) c.args.text.now cuts rising c.args.at words stands c.loop-here.here m.0 m.1 c.loop-here-test.false
