use Rattle.std.proofs.Common.{◌≡◌, ◌++◌, reverse, ap, sym, ◌∙◌}
use Rattle.lbk_ucd.specs.Rows.{first_value}
use Rattle.lbk_ucd.proofs.OverlayLemmas.{if_ok, in_order_apart, last_value-append, value-reverse}
use Rattle.lbk_ucd.proofs.overlay.+flatten.Goals as goal

pub returns-then-are_in_order-clause-values : goal.returns-then-are_in_order-clause-values
returns-then-are_in_order-clause-values g t c =
    if_ok c.from_slice.result
    (λ flat same code. ap (first_value code) same ∙ sym (value-reverse c.args.ranges.now.rows.now code (in_order_apart c.args.ranges.now.rows.now (c.are_in_order.ensures.yes c.if-are_in_order.true))))
    c.from_slice.ensures.items

pub returns-clause-values : goal.returns-clause-values
returns-clause-values g t c =
    let earlier = c.split_at.result.0.now in
    let later = c.split_at.result.1.now in
    let whole : c.args.ranges.now.rows.now ≡ earlier ++ later = c.split_at.ensures.by_index.0 in
    if_ok c.overlay.result
    (λ flat over code.
    over code
    ∙ (rw (c.deref.ensures.value, c.deref-2.ensures.value, c.in_ok-under.ensures.values code, c.in_ok-over.ensures.values code)
    (sym (last_value-append earlier later code)) ∙ sym (ap (λ rows. first_value code (reverse rows)) whole)))
    c.overlay.ensures.values
