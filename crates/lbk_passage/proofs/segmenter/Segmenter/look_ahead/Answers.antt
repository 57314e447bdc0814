use Rattle.lbk_passage.proofs.AheadLemmas.{ahead-kept}
use Rattle.lbk_passage.proofs.segmenter.Segmenter.look_ahead.Goals as goal

pub returns-clause-state : goal.returns-clause-state
returns-clause-state g c = c.look_ahead-2.ensures.state (g.C.CellSource.cell_of c.args.self.now.known.cells.now) c.args.self.now.profile

pub returns-clause-remains : goal.returns-clause-remains
returns-clause-remains g c = λ none. c.look_ahead-2.ensures.remains none c.args.self.now.profile

pub invariant_of-self-2 : goal.invariant_of-self-2
invariant_of-self-2 g c =
    let s = c.args.self.now in
    let cell = g.C.CellSource.cell_of s.known.cells.now in
    let kept = ahead-kept s.profile cell s.paragraph c.look_ahead-2.new.self s.ahead c.tell-told.new.self c.tell-told.result c.tell-told.ensures
    c.look_ahead-2.ensures.told c.look_ahead-2.ensures.in_hand s.told s.found in
    record { told = kept.0; found = kept.1; whole = c.look_ahead-2.ensures.whole; met = s.met }

pub returns-then-not-self-clause-state : goal.returns-then-not-self-clause-state
returns-then-not-self-clause-state g c = c.look_ahead.ensures.state (g.C.CellSource.cell_of c.args.self.now.known.cells.now) c.args.self.now.profile
