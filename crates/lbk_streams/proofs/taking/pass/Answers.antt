use Rattle.std.proofs.Common.{◌≡◌, ℕ, true, ◌+◌, ◌%◌, ◌^◌, ◌<◌, ◌++◌, [], ◌∷◌, get_or, map, sym, ap, subst, ◌∙◌, refl, arith}
use Rattle.std.proofs.lemmas.List.{append-nil}
use Rattle.lbk_rules.specs.Verdict.{verdict_between_in}
use Rattle.lbk_rules.specs.declared.steps.Step.{Step}
use Rattle.lbk_rules.specs.Rows.{IsPlace, step_by, steps_in, verdict_shown}
use Rattle.lbk_values.specs.declared.profile.Profile.{Profile}
use Rattle.lbk_values.specs.declared.profile.Profile.TheVariants.{First}
use Rattle.lbk_streams.specs.declared.stream.StreamPosition.{StreamPosition}
use Rattle.lbk_bytes.specs.Bytes.{with_break}
use Rattle.lbk_bytes.specs.Reached.{IsInOrder, scalars_of}
use Rattle.lbk_bytes.specs.Shown.{given_in}
use Rattle.lbk_streams.specs.Stands.{Waits}
use Rattle.lbk_streams.proofs.PlaceLemmas.{IsInOrder-at, IsPlaced-free, IsPlaced-held, next-held}
use Rattle.lbk_streams.proofs.StandsLemmas.{Stands-join, Stands-on, decides-late, decides-now, knows-next, late-none, waits-now}
use Rattle.lbk_streams.proofs.TakingLemmas.{Steps-put, Steps-still}
use Rattle.lbk_streams.proofs.taking.pass.Goals as goal

-- the step that was read is the one of the place
read-at : (profile : Profile) (read row given kind : ℕ) (found : Step) → found ≡ step_by (steps_in profile) read given → given ≡ kind
    → (IsPlace row → read ≡ row) → IsPlace row → found ≡ step_by (steps_in profile) row kind
read-at profile read row given kind found is is_kind same at =
    is ∙ ap (step_by (steps_in profile) read) is_kind ∙ ap (λ r. step_by (steps_in profile) r kind) (same at)

pub returns-then-place-ne0-clause-stands : goal.returns-then-place-ne0-clause-stands
returns-then-place-ne0-clause-stands g c = λ cell p ps all flat is_char is_size some fits joins stands.
    let place = c.args.place in
    let first = c.step_in-first.result in
    let next : StreamPosition = record { at = (place.at + c.args.size) % 2 ^ 64; held_at = place.held_at; row = first.next; held_code = place.held_code } in
    let held : 0 < place.held_code = omega arith in
    Stands-join c.args.profile cell place next p ps all (given_in c.args.out.now c.args.count) c.args.c c.args.size is_char is_size fits held (joins held)
    refl refl refl
    (knows-next cell (g.K.KindSource.kinds_of c.args.table.now) (g.K.KindSource.pairs_of c.args.table.now) place.row c.args.c first flat c.ranges.c.0
    (read-at First _ place.row _ (get_or (g.K.KindSource.kinds_of c.args.table.now) c.args.c 0) first c.step_in-first.ensures.read c.kind_at-kind.ensures c.place_by-row.ensures.same)) stands

pub returns-then-waits-clause-stands : goal.returns-then-waits-clause-stands
returns-then-waits-clause-stands g c = λ cell p ps all flat is_char is_size some fits joins stands.
    let place = c.args.place in
    let profile = c.args.profile in
    let kinds = g.K.KindSource.kinds_of c.args.table.now in
    let pairs = g.K.KindSource.pairs_of c.args.table.now in
    let x = c.args.c in
    let first = c.step_in-first.result in
    let step = c.step_in-step.result in
    let kind = get_or kinds x 0 in
    let scalar = c.ranges.c.0 in
    let told = c.waits.ensures.held c.if-waits.true in
    let second = told.0 in
    let held = told.1 in
    let is_first = read-at First _ place.row _ kind first c.step_in-first.ensures.read c.kind_at-kind.ensures c.place_by-row.ensures.same in
    let is_step = λ (at : IsPlace place.row).
    read-at profile _ place.row _ kind step c.step_in-step.ensures.read c.kind_at-kind.ensures c.place_by-row.ensures.same at
    ∙ ap (λ q. step_by (steps_in q) place.row kind) second in
    let next : StreamPosition = record { at = (place.at + c.args.size) % 2 ^ 64; held_at = place.at; row = first.next; held_code = first.shown } in
    let given = given_in c.args.out.now c.args.count in
    Stands-on profile cell place next p ps all given [] given x c.args.size is_char is_size some fits c.if-place-ne0.false
    refl (knows-next cell kinds pairs place.row x first flat scalar is_first)
    (λ taken known.
    decides-late cell kinds pairs taken place next ps x first step flat known scalar is_first is_step held told.2 refl refl
    ∙ ap (λ q. with_break place.at (verdict_between_in q (map cell taken) (cell x ∷ map cell (scalars_of ps))) []) (sym second))
    (λ taken known onward _.
    subst (λ q. Waits q cell (taken ++ x ∷ []) next) (sym second)
    (waits-now cell kinds pairs taken place next x first step flat known scalar is_first is_step held told.2 refl refl onward))
    (sym (append-nil given)) stands

pub returns-clause-stands : goal.returns-clause-stands
returns-clause-stands g c = λ cell p ps all flat is_char is_size some fits joins stands.
    let place = c.args.place in
    let x = c.args.c in
    let first = c.step_in-first.result in
    let step = c.step_in-step.result in
    let kind = get_or (g.K.KindSource.kinds_of c.args.table.now) x 0 in
    let is_first = read-at First _ place.row _ kind first c.step_in-first.ensures.read c.kind_at-kind.ensures c.place_by-row.ensures.same in
    let is_step = read-at c.args.profile _ place.row _ kind step c.step_in-step.ensures.read c.kind_at-kind.ensures c.place_by-row.ensures.same in
    let quiet = c.waits.ensures.decided c.if-waits.false in
    let none = c.if-place-ne0.false in
    let next : StreamPosition = record { at = (place.at + c.args.size) % 2 ^ 64; held_at = place.held_at; row = first.next; held_code = place.held_code } in
    let front = with_break place.at (verdict_shown step.shown) [] in
    Stands-on c.args.profile cell place next p ps all (given_in c.args.out.now c.args.count) front (given_in c.put-more.new.out c.put-more.result)
    x c.args.size is_char is_size some fits none
    refl (knows-next cell (g.K.KindSource.kinds_of c.args.table.now) (g.K.KindSource.pairs_of c.args.table.now) place.row x first flat c.ranges.c.0 is_first)
    (λ taken known.
    ap (λ l. front ++ l) (late-none cell next ps none) ∙ append-nil front
    ∙ decides-now c.args.profile cell (g.K.KindSource.kinds_of c.args.table.now) (g.K.KindSource.pairs_of c.args.table.now) taken place.at place.row x first step (map cell (scalars_of ps)) flat known c.ranges.c.0 is_first is_step quiet)
    (λ taken known onward waits. absurd (omega arith))
    c.put-more.ensures.front
    stands

pub returns-then-place-ne0-clause-steps : goal.returns-then-place-ne0-clause-steps
returns-then-place-ne0-clause-steps g c =
    let place = c.args.place in
    let held : 0 < place.held_code = omega arith in
    let next : StreamPosition = record { at = (place.at + c.args.size) % 2 ^ 64; held_at = place.held_at; row = c.step_in-first.result.next; held_code = place.held_code } in
    Steps-still c.args.size c.args.out.now c.args.count place next true (omega arith) (omega arith) refl
    (λ from fits p.
    let fit = fits refl in
    IsPlaced-held c.args.out.now c.args.count from next (omega (arith, p.waits held, fit.0, fit.1))
    (subst (λ n. IsInOrder c.args.out.now c.args.count from n) (next-held place held) p.order))

pub returns-then-waits-clause-steps : goal.returns-then-waits-clause-steps
returns-then-waits-clause-steps g c =
    let place = c.args.place in
    let first = c.step_in-first.result in
    let next : StreamPosition = record { at = (place.at + c.args.size) % 2 ^ 64; held_at = place.at; row = first.next; held_code = first.shown } in
    Steps-still c.args.size c.args.out.now c.args.count place next true (omega arith) (omega arith) refl
    (λ from fits p.
    let fit = fits refl in
    IsPlaced-held c.args.out.now c.args.count from next (omega (arith, fit.0, fit.1)) (IsInOrder-at c.args.out.now c.args.count from place p))

pub returns-clause-steps : goal.returns-clause-steps
returns-clause-steps g c =
    let place = c.args.place in
    let put = c.put-more in
    let next : StreamPosition = record { at = (place.at + c.args.size) % 2 ^ 64; held_at = place.held_at; row = c.step_in-first.result.next; held_code = place.held_code } in
    Steps-put c.args.size c.args.out.now c.args.count place put.new.out put.result next true put.ensures.within put.ensures.breaks (omega arith) refl
    (λ from fits p.
    let fit = fits refl in
    let later : place.at < next.at = omega (arith, fit.0, fit.1) in
    let order = IsInOrder-at c.args.out.now c.args.count from place p in
    IsPlaced-free put.new.out put.result from next.at next c.if-place-ne0.false (omega arith)
    (omega (arith, order.0, later), put.ensures.in_order from next.at later order))
