use Rattle.std.proofs.Common.{arith}
use Rattle.lbk_units.specs.Reached.{on_from}
use Rattle.lbk_units.proofs.ReachedLemmas.{filled}
use Rattle.lbk_units.proofs.UnitLemmas.{follows-text}
use Rattle.lbk_units.proofs.filling.fill.Goals as goal

pub loop-here-preserved : goal.loop-here-preserved
loop-here-preserved g c =
    let so_far = c.loop-here.invariant in
    let part = c.fill_part-past.ensures in
    let one = c.take_one-here.ensures in
    let of = g.U.Unit.pieces_of in
    let text = c.args.text.now in
    record {
      goes_on = record {
        within = (omega (arith, one.goes_on.within.0), one.goes_on.within.1, one.goes_on.within.2);
        onward = (omega (arith, so_far.goes_on.onward.0, part.goes_on.onward.0, one.goes_on.onward.0), omega (arith, so_far.goes_on.onward.1, part.goes_on.onward.1, one.goes_on.onward.1));
        in_order = λ from order. one.goes_on.in_order from (part.goes_on.in_order from (so_far.goes_on.in_order from order));
      };
      no_room = λ none. absurd (omega arith);
      gives = λ cell flat all start. one.gives cell flat all (part.gives cell (on_from of text) flat (follows-text of text) all (so_far.gives cell flat all start));
    }

pub returns-else-here-text : goal.returns-else-here-text
returns-else-here-text g c =
    let so_far = c.loop-here.invariant in
    filled g.T.Target.entry g.T.Target.onward g.U.Unit.pieces_of (g.K.KindSource.kinds_of c.args.table.now) (g.K.KindSource.pairs_of c.args.table.now) c.args.profile c.args.text.now c.args.out.now c.args.start c.loop-here.out c.loop-here.here
    so_far.goes_on (λ none. so_far.no_room (omega arith)) (λ free. omega (arith, so_far.goes_on.within.2)) so_far.gives

pub returns-after-loop-here : goal.returns-after-loop-here
returns-after-loop-here g c =
    let so_far = c.loop-here.invariant in
    filled g.T.Target.entry g.T.Target.onward g.U.Unit.pieces_of (g.K.KindSource.kinds_of c.args.table.now) (g.K.KindSource.pairs_of c.args.table.now) c.args.profile c.args.text.now c.args.out.now c.args.start c.loop-here.out c.loop-here.here
    so_far.goes_on (λ none. so_far.no_room (omega arith)) (λ free. absurd (omega arith)) so_far.gives
