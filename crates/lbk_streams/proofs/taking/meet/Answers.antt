use Rattle.std.proofs.Common.{◌≡◌, ◌<◌, ◌==◌, ◌++◌, [], true, false, Some, refl, sym, ap, subst, ◌∙◌, arith}
use Rattle.std.proofs.lemmas.Bool.Decides.{nat_tests}
use Rattle.std.proofs.lemmas.List.{append-nil}
use Rattle.lbk_rules.specs.Normal.{normal}
use Rattle.lbk_rules.specs.Rows.{verdict_shown}
use Rattle.lbk_bytes.specs.Bytes.{with_break}
use Rattle.lbk_bytes.specs.Shown.{given_in}
use Rattle.lbk_bytes.proofs.AheadLemmas.{told_by}
use Rattle.lbk_bytes.specs.Reached.{IsInOrder}
use Rattle.lbk_streams.specs.declared.stream.StreamPosition.{StreamPosition}
use Rattle.lbk_streams.proofs.PlaceLemmas.{IsInOrder-at, IsPlaced-free, next-held}
use Rattle.lbk_streams.proofs.StandsLemmas.{Stands-settle}
use Rattle.lbk_streams.proofs.TakingLemmas.{Steps-put, Steps-still}
use Rattle.lbk_streams.proofs.taking.meet.Goals as goal

pub returns-then-closes-clause-stands : goal.returns-then-closes-clause-stands
returns-then-closes-clause-stands g c = λ profile cell p ps all flat is_char stands.
    let place = c.args.place in
    let given = given_in c.args.out.now c.args.count in
    let held : (place.held_code == 0) ≡ false = grind (arith, nat_tests) in
    let told : told_by false (normal (cell c.args.c)) ≡ Some true =
    ap (told_by false) (sym (c.cell_by_kind-cell.ensures cell flat.kinds)) ∙ sym c.unit_closes.ensures ∙ c.in-Some.is ∙ ap Some c.if-closes.true in
    Stands-settle profile cell place p ps all given given c.args.c true is_char held told (sym (append-nil given)) stands

pub returns-clause-stands : goal.returns-clause-stands
returns-clause-stands g c = λ profile cell p ps all flat is_char stands.
    let place = c.args.place in
    let given = given_in c.args.out.now c.args.count in
    let waits : 0 < place.held_code = omega arith in
    let held : (place.held_code == 0) ≡ false = grind (arith, nat_tests) in
    let told : told_by false (normal (cell c.args.c)) ≡ Some false =
    ap (told_by false) (sym (c.cell_by_kind-cell.ensures cell flat.kinds)) ∙ sym c.unit_closes.ensures ∙ c.in-Some.is ∙ ap Some c.if-closes.false in
    Stands-settle profile cell place p ps all given (given_in c.put-more.new.out c.put-more.result) c.args.c false is_char held told
    (c.put-more.ensures.front
    ∙ ap (λ n. given ++ with_break place.held_at (verdict_shown n) []) (c.shown_by-shown.ensures.same (stands.waits waits).coded)) stands

pub returns-then-closes-clause-steps : goal.returns-then-closes-clause-steps
returns-then-closes-clause-steps g c =
    let place = c.args.place in
    let free : StreamPosition = record { at = place.at; held_at = place.held_at; row = place.row; held_code = 0 } in
    Steps-still 0 c.args.out.now c.args.count place free false (omega arith) (omega arith) refl
    (λ from fits p. IsPlaced-free c.args.out.now c.args.count from place.at free refl (omega arith) (IsInOrder-at c.args.out.now c.args.count from place p))

pub returns-clause-steps : goal.returns-clause-steps
returns-clause-steps g c =
    let place = c.args.place in
    let put = c.put-more in
    let held : 0 < place.held_code = omega arith in
    let free : StreamPosition = record { at = place.at; held_at = place.held_at; row = place.row; held_code = 0 } in
    Steps-put 0 c.args.out.now c.args.count place put.new.out put.result free false put.ensures.within put.ensures.breaks (omega arith) refl
    (λ from fits p.
    let order = subst (λ n. IsInOrder c.args.out.now c.args.count from n) (next-held place held) p.order in
    IsPlaced-free put.new.out put.result from place.at free refl (omega arith)
    (omega (arith, order.0, p.waits held), put.ensures.in_order from place.at (p.waits held) order))
