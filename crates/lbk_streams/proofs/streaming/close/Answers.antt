use Rattle.std.proofs.Common.{suc, ◌<◌, ◌++◌, sym, ap, subst, ◌∙◌, arith}
use Rattle.lbk_rules.specs.FlatTable.{KnowsTaken}
use Rattle.lbk_bytes.specs.Bytes.{end_in}
use Rattle.lbk_bytes.specs.Shown.{given_in}
use Rattle.lbk_bytes.proofs.OrderLemmas.{AreInOrder-wider}
use Rattle.lbk_streams.specs.declared.stream.StreamPosition.{StreamPosition}
use Rattle.lbk_streams.specs.Stands.{IsPlaced}
use Rattle.lbk_streams.specs.Streams.{next_place}
use Rattle.lbk_streams.proofs.PlaceLemmas.{IsInOrder-at, next-within}
use Rattle.lbk_streams.proofs.streaming.close.Goals as goal

pub returns-clause-end : goal.returns-clause-end
returns-clause-end g c = λ free profile cell taken knows some.
    let same = c.place_by-row.ensures.same knows.0 in
    c.put_end-count.ensures.front profile cell taken (subst (λ n. KnowsTaken cell n taken) (sym same) knows) (λ more. some (subst (λ n. 0 < n) same more))
    ∙ ap (λ g. given_in c.args.out.now c.args.here.count ++ end_in g profile cell taken c.args.here.place.at) c.goes_on-goes_on.ensures

pub returns-then-here-out-clause-in_order : goal.returns-then-here-out-clause-in_order
returns-then-here-out-clause-in_order g c = λ base from o.
    let here = c.args.here in
    AreInOrder-wider c.args.out.now here.count from (next_place here.place) (suc here.place.at) (omega (arith, next-within here.place o.placed.waits)) o.placed.order.1

pub returns-then-here-out-clause-placed : goal.returns-then-here-out-clause-placed
returns-then-here-out-clause-placed g c = λ base from o unended. subst (λ (p : StreamPosition). IsPlaced c.args.out.now c.args.here.count from p) (sym c.keep.ensures.place) o.placed

pub returns-then-here-out-clause-waits : goal.returns-then-here-out-clause-waits
returns-then-here-out-clause-waits g c = λ base from o. subst (λ (p : StreamPosition). 0 < p.held_code → p.held_at < p.at) (sym c.keep.ensures.place) o.placed.waits

pub returns-clause-in_order : goal.returns-clause-in_order
returns-clause-in_order g c = λ base from o.
    let here = c.args.here in
    c.put_end-count.ensures.in_order from (suc here.place.at) (omega arith) (IsInOrder-at c.args.out.now here.count from here.place o.placed)
