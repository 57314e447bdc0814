use Rattle.std.proofs.Common.{◌++◌, length, refl, sym, ap, subst, ◌∙◌, arith}
use Rattle.lbk_calls.specs.declared.interface.State.{State}
use Rattle.lbk_calls.specs.State.{goes_on, plain}
use Rattle.lbk_calls.specs.Coming.{UnitsGo}
use Rattle.lbk_bytes.specs.Reached.{IsInOrderBy}
use Rattle.lbk_bytes.specs.Shown.{given_in}
use Rattle.lbk_calls.proofs.GoingLemmas.{over-ended}
use Rattle.lbk_calls.proofs.UnitsComingLemmas.{units-ended}
use Rattle.lbk_calls.proofs.giving.settle_end.Goals as goal

pub returns-clause-goes : goal.returns-clause-goes
returns-clause-goes g c = λ profile cell to_come is_place here.
    let end = c.end in
    let puts = end.ensures.puts in
    let old = c.args.state.now in
    let text = c.args.text.now in
    let out = c.args.out.now in
    let from = g.T.Target.onward (g.T.Given.end_in (goes_on old.profile)) in
    let state : State = record { at = length text; row = c.args.here.row; profile = old.profile; ended = 1 } in
    subst (λ (s : State). UnitsGo from g.U.Unit.pieces_of profile cell text to_come (plain s) (given_in end.new.out end.result) end.result (length out))
    (sym end.ensures.ended)
    (units-ended from g.U.Unit.pieces_of profile cell text to_come c.args.here (plain state) out end.new.out end.result
    (length out) here c.requires.ends.0 (sym c.requires.ends.0) refl
    (λ taken knows some.
    puts.front profile cell taken knows some
    ∙ ap (λ ps. given_in out c.args.here.count ++ from profile cell taken (length text) ps) (sym g.met.U.Unit.ends))
    (omega (arith, puts.within)) (omega arith))

pub returns-clause-goes_over : goal.returns-clause-goes_over
returns-clause-goes_over g c = λ profile going order.
    let end = c.end in
    let puts = end.ensures.puts in
    let at = c.args.state.now.at in
    let ends = c.requires.ends.0 in
    over-ended g.T.Target.entry profile c.args.state.now _ (length c.args.text.now) (length c.args.out.now) end.new.out end.result
    going (ap (λ (s : State). s.profile) end.ensures.ended) (ap (λ (s : State). s.ended) end.ensures.ended) (ap (λ (s : State). s.at) end.ensures.ended)
    (omega (arith, order.0, ap (λ (s : State). s.at) end.ensures.ended)) (omega (arith, puts.within)) (omega (arith, c.requires.within.0))
    (puts.in_order at _ (omega arith) (subst (λ n. IsInOrderBy g.T.Target.entry c.args.out.now c.args.here.count at n) ends order))
