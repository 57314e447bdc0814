use Rattle.std.proofs.Common.{◌≡◌, ◌+◌, ◌-◌, ◌%◌, ◌^◌, ◌++◌, [], List, map, sym, ap, subst, ◌∙◌, arith}
use Rattle.lbk_rules.specs.declared.Break.{Break}
use Rattle.lbk_rules.specs.Joins.{moved}
use Rattle.lbk_bytes.specs.Bytes.{end_in}
use Rattle.lbk_bytes.specs.Order.{AreInOrder}
use Rattle.lbk_bytes.specs.Shown.{given_in}
use Rattle.lbk_units.specs.Reached.{UnitsReachedBy, on_from}
use Rattle.lbk_streams.specs.Stands.{onward_of}
use Rattle.lbk_bytes.proofs.OrderLemmas.{AreInOrder-none}
use Rattle.lbk_streams.proofs.BreakLemmas.{few-between}
use Rattle.lbk_streams.proofs.SkimLemmas.{Stands-skim}
use Rattle.lbk_streams.proofs.skimming.skim_into.Goals as goal

pub returns-clause-stands : goal.returns-clause-stands
returns-clause-stands g c = λ cell more all next flat free some behind at_same row_same none_waits fits stands.
    let of = g.U.Unit.pieces_of in
    let profile = c.args.profile in
    let piece = c.args.piece.now in
    let place = c.args.place in
    let from = c.args.from in
    let end = c.fill_piece-end in
    let given = given_in end.new.out end.result.count in
    let by = (place.at + (2 ^ 64 - from)) % 2 ^ 64 in
    let by_same : by ≡ place.at - from = omega arith in
    let on = on_from of (piece ++ more) in
    let order = end.ensures.goes_on.in_order from (omega arith, AreInOrder-none c.args.room.now from from) in
    let reached = λ (coming : List Break) (r : UnitsReachedBy (onward_of all) profile cell on coming (record { count = 0; row = place.row; at = from }) []).
    end.ensures.gives cell more flat (record { breaks = coming; end = end_in all.goes_on })
    (subst (λ n. UnitsReachedBy (onward_of all) profile cell on coming (record { count = 0; row = n; at = from }) [])
    (sym (c.place_by.ensures.same r.knows.0)) r) in
    Stands-skim of profile cell piece more all given (given_in c.move_by.new.out end.result.count) place next from end.result
    end.ensures.goes_on.onward.0 end.ensures.goes_on.within.2 free behind at_same row_same none_waits reached
    (c.move_by.ensures.moved from end.result.at (omega (arith, end.ensures.goes_on.onward.0)) order.1 ∙ ap (λ n. map (moved n) given) by_same) stands

pub returns-clause-breaks : goal.returns-clause-breaks
returns-clause-breaks g c =
    let end = c.fill_piece-end in
    let order = end.ensures.goes_on.in_order c.args.from (omega arith, AreInOrder-none c.args.room.now c.args.from c.args.from) in
    c.move_by.ensures.breaks order.1.each

pub returns-clause-few : goal.returns-clause-few
returns-clause-few g c =
    let end = c.fill_piece-end in
    let order = end.ensures.goes_on.in_order c.args.from (omega arith, AreInOrder-none c.args.room.now c.args.from c.args.from) in
    few-between end.new.out end.result.count c.args.from end.result.at order.0 order.1

pub returns-clause-in_order : goal.returns-clause-in_order
returns-clause-in_order g c = λ behind fits.
    let from = c.args.from in
    let place = c.args.place in
    let end = c.fill_piece-end in
    let count = end.result.count in
    let by = (place.at + (2 ^ 64 - from)) % 2 ^ 64 in
    let by_same : by ≡ place.at - from = omega arith in
    let order = end.ensures.goes_on.in_order from (omega arith, AreInOrder-none c.args.room.now from from) in
    let low : from + by ≡ place.at = omega arith in
    let high : end.result.at + by ≡ place.at + (end.result.at - from) = omega (arith, order.0) in
    let moved_on = c.move_by.ensures.in_order from end.result.at (omega (arith, high)) order.1 in
    subst (λ n. AreInOrder c.move_by.new.out count n (place.at + (end.result.at - from))) low
    (subst (λ n. AreInOrder c.move_by.new.out count (from + by) n) high moved_on)
