use Rattle.std.proofs.Common.{◌+◌, ◌%◌, ◌/◌, ◌∷◌, [], ◌++◌, map, take, refl, sym, ap, subst, ◌∙◌}
use Rattle.std.proofs.Math.ListN.{set}
use Rattle.std.proofs.lemmas.List.{map-append, take_more_set}
use Rattle.lbk_rules.specs.Breaks.{break_by}
use Rattle.lbk_rules.specs.Rows.{verdict_shown}
use Rattle.lbk_bytes.specs.declared.raw_break.RawBreak.{RawBreak}
use Rattle.lbk_bytes.specs.Order.{ArePositionsInOrder, IsPosition}
use Rattle.lbk_bytes.specs.Shown.{shown}
use Rattle.lbk_bytes.proofs.OrderLemmas.{AreInOrder-added}
use Rattle.lbk_bytes.proofs.ShownLemmas.{is-shown, raw-split, shown-raw}
use Rattle.lbk_units.proofs.positions.put_position.Goals as goal

pub returns-clause-in_order : goal.returns-clause-in_order
returns-clause-in_order c = λ from to below order.
    let out = c.args.out.now in
    let verdict = verdict_shown c.args.shown in
    let found = break_by c.args.at verdict in
    let split = raw-split c.args.at c.args.shown verdict (is-shown c.args.shown c.requires.shown) in
    subst (λ raw. ArePositionsInOrder (set out c.args.count raw) (c.args.count + 1) from to) split
    (AreInOrder-added IsPosition out c.args.count found from to c.requires.room (found, refl) order.0 below order.1)

pub returns-clause-front : goal.returns-clause-front
returns-clause-front c =
    let out = c.args.out.now in
    let verdict = verdict_shown c.args.shown in
    let found : RawBreak = record { at = c.args.at; kind = c.args.shown % 256; rule = c.args.shown / 256 } in
    let split = raw-split c.args.at c.args.shown verdict (is-shown c.args.shown c.requires.shown) in
    ap (map shown) (take_more_set out c.args.count found c.requires.room)
    ∙ map-append shown (take c.args.count out) (found ∷ [])
    ∙ ap (λ b. map shown (take c.args.count out) ++ b ∷ []) (ap shown (sym split) ∙ shown-raw (break_by c.args.at verdict))
