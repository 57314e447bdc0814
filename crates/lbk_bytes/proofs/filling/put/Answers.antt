use Rattle.std.proofs.Common.{◌≡◌, ◌+◌, ◌%◌, ◌/◌, not, sym, ap, subst, ◌∙◌}
use Rattle.std.specs.Int.{from_bool}
use Rattle.std.proofs.Math.ListN.{set}
use Rattle.std.proofs.lemmas.List.{take-set}
use Rattle.lbk_rules.specs.Breaks.{break_by, is_no}
use Rattle.lbk_rules.specs.Rows.{verdict_shown}
use Rattle.lbk_bytes.specs.declared.raw_break.RawBreak.{RawBreak}
use Rattle.lbk_bytes.specs.Order.{AreBreaks, AreInOrder}
use Rattle.lbk_bytes.specs.Shown.{given_in, shown}
use Rattle.lbk_bytes.proofs.OrderLemmas.{AreBreaks-put, AreInOrder-put}
use Rattle.lbk_bytes.proofs.ReachedLemmas.{written-more}
use Rattle.lbk_bytes.proofs.ShownLemmas.{is-shown, raw-split, shown-raw}
use Rattle.lbk_bytes.proofs.filling.put.Goals as goal

pub returns-clause-in_order : goal.returns-clause-in_order
returns-clause-in_order c = λ from to below order.
    let out = c.args.out.now in
    let verdict = verdict_shown c.args.shown in
    let found = break_by c.args.at verdict in
    let more : c.from.result ≡ from_bool (not (is_no verdict.kind)) = c.from.ensures ∙ ap from_bool c.shows_break.ensures in
    let split = raw-split c.args.at c.args.shown verdict (is-shown c.args.shown c.requires.shown) in
    let put = AreInOrder-put out c.args.count found from to c.requires.room order.0 below order.1 in
    let written = subst (λ raw. AreInOrder (set out c.args.count raw) (c.args.count + from_bool (not (is_no verdict.kind))) from to) split put in
    subst (λ n. AreInOrder (set out c.args.count (record { at = c.args.at; kind = c.args.shown % 256; rule = c.args.shown / 256 })) (c.args.count + n) from to) (sym more) written

pub returns-clause-breaks : goal.returns-clause-breaks
returns-clause-breaks c = λ all.
    let out = c.args.out.now in
    let verdict = verdict_shown c.args.shown in
    let found = break_by c.args.at verdict in
    let more : c.from.result ≡ from_bool (not (is_no verdict.kind)) = c.from.ensures ∙ ap from_bool c.shows_break.ensures in
    let split = raw-split c.args.at c.args.shown verdict (is-shown c.args.shown c.requires.shown) in
    let put = AreBreaks-put out c.args.count found c.requires.room all in
    let written = subst (λ raw. AreBreaks (set out c.args.count raw) (c.args.count + from_bool (not (is_no verdict.kind)))) split put in
    subst (λ n. AreBreaks (set out c.args.count (record { at = c.args.at; kind = c.args.shown % 256; rule = c.args.shown / 256 })) (c.args.count + n)) (sym more) written

pub returns-clause-front : goal.returns-clause-front
returns-clause-front c =
    let out = c.args.out.now in
    let verdict = verdict_shown c.args.shown in
    let found : RawBreak = record { at = c.args.at; kind = c.args.shown % 256; rule = c.args.shown / 256 } in
    let more : c.from.result ≡ from_bool (not (is_no verdict.kind)) = c.from.ensures ∙ ap from_bool c.shows_break.ensures in
    let split = raw-split c.args.at c.args.shown verdict (is-shown c.args.shown c.requires.shown) in
    ap (λ n. given_in (set out c.args.count found) (c.args.count + n)) more
    ∙ written-more out c.args.count found c.args.at verdict c.requires.room (ap shown (sym split) ∙ shown-raw (break_by c.args.at verdict))

pub returns-clause-kept : goal.returns-clause-kept
returns-clause-kept c =
    take-set c.args.out.now c.args.count (record { at = c.args.at; kind = c.args.shown % 256; rule = c.args.shown / 256 })
