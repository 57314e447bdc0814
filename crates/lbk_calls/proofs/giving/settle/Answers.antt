use Rattle.std.proofs.Common.{ℕ, ◌++◌, length, refl, sym, ap, ap₂, subst, ◌∙◌, arith}
use Rattle.lbk_bytes.specs.declared.fill_state.FillState.{FillState}
use Rattle.lbk_calls.specs.declared.interface.State.{State}
use Rattle.lbk_calls.specs.State.{goes_on, plain}
use Rattle.lbk_calls.specs.Coming.{UnitsGo}
use Rattle.lbk_bytes.specs.Reached.{IsInOrderBy}
use Rattle.lbk_bytes.specs.Shown.{given_in}
use Rattle.lbk_calls.proofs.GoingLemmas.{over-ended, over-full}
use Rattle.lbk_calls.proofs.UnitsComingLemmas.{units-ended, units-full}
use Rattle.lbk_calls.proofs.giving.settle.Goals as goal

pub returns-then-here-out-clause-goes : goal.returns-then-here-out-clause-goes
returns-then-here-out-clause-goes g c = λ profile cell to_come is_place here.
    let old = c.args.state.now in
    let state : State = record { at = c.args.here.at; row = c.number_at-state.result; profile = old.profile; ended = old.ended } in
    units-full (g.T.Target.onward (g.T.Given.end_in (goes_on old.profile))) g.U.Unit.pieces_of profile cell c.args.text.now to_come c.args.here (plain state) c.args.out.now
    (length c.args.out.now) here c.requires.within.2 refl (c.number_at-state.ensures.same is_place) c.requires.unended (omega (arith, c.requires.within.0)) (omega arith)

pub returns-clause-goes : goal.returns-clause-goes
returns-clause-goes g c = λ profile cell to_come is_place here.
    let end = c.end in
    let puts = end.ensures.puts in
    let old = c.args.state.now in
    let text = c.args.text.now in
    let out = c.args.out.now in
    let ends = c.requires.stops (omega (arith, c.requires.within.0)) in
    let from = g.T.Target.onward (g.T.Given.end_in (goes_on old.profile)) in
    let state : State = record { at = c.args.here.at; row = c.number_at-state.result; profile = old.profile; ended = 1 } in
    subst (λ (s : State). UnitsGo from g.U.Unit.pieces_of profile cell text to_come (plain s) (given_in end.new.out end.result) end.result (length out))
    (sym end.ensures.ended)
    (units-ended from g.U.Unit.pieces_of profile cell text to_come c.args.here (plain state) out end.new.out end.result
    (length out) here ends refl refl
    (λ taken knows some.
    puts.front profile cell taken knows some
    ∙ ap (λ ps. given_in out c.args.here.count ++ from profile cell taken (length text) ps) (sym g.met.U.Unit.ends))
    (omega (arith, puts.within)) (omega arith))

pub returns-then-here-out-clause-goes_over : goal.returns-then-here-out-clause-goes_over
returns-then-here-out-clause-goes_over g c = λ profile going order stays.
    let old = c.args.state.now in
    over-full g.T.Target.entry profile old _ (length c.args.text.now) (length c.args.out.now) c.args.out.now c.args.here.count
    going refl c.requires.unended order c.requires.within.2 (omega arith)
    (λ empty.
    let there = stays empty in
    ap₂ (λ (at row : ℕ). (let state : State = record { at = at; row = row; profile = old.profile; ended = old.ended } in state)) (ap (λ (s : FillState). s.at) there) (c.number_at-state.ensures.kept (ap (λ (s : FillState). s.row) there)))

pub returns-clause-goes_over : goal.returns-clause-goes_over
returns-clause-goes_over g c = λ profile going order stays.
    let end = c.end in
    let puts = end.ensures.puts in
    let at = c.args.state.now.at in
    let ends = c.requires.stops (omega (arith, c.requires.within.0)) in
    let there = ap (λ (s : State). s.at) end.ensures.ended ∙ ends in
    over-ended g.T.Target.entry profile c.args.state.now _ (length c.args.text.now) (length c.args.out.now) end.new.out end.result
    going (ap (λ (s : State). s.profile) end.ensures.ended) (ap (λ (s : State). s.ended) end.ensures.ended) there
    (omega (arith, order.0, there)) (omega (arith, puts.within)) (omega (arith, c.requires.within.0))
    (puts.in_order at _ (omega arith) (subst (λ n. IsInOrderBy g.T.Target.entry c.args.out.now c.args.here.count at n) ends order))
